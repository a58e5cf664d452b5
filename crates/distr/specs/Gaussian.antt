-- The Gaussian: its support, the lent cumulative table and the draw by it.
use Rattle.std.specs.Prelude.{ℕ, zero, suc, ◌+◌, ◌-◌, ◌/◌, ◌%◌, ◌^◌, max, Bool, true, cond, ◌&&◌, List, [], ◌∷◌, leb, eqb, length, get_or, ℤ, pos, neg_ℤ, Float}
use Rattle.std.specs.Float.{binary64}
use Rattle.std.specs.Float.Ieee.{mul}
use Rattle.std.specs.Float.Ieee.Positive.{num, den}
use Rattle.distr.specs.Constants.{tail_cut}
use Rattle.distr.specs.Rule.{Rule, wide_words}

-- "Support M = max(1, ⌊deviation × 12.0⌋), the product taken in f64": ⌊num / den⌋ of the rounded product.
abbrev pub support : Float → ℕ
support deviation =
    let product = mul binary64 deviation tail_cut in
    max 1 (num product / den product)

-- No element is below the one before it.
unfoldable pub never_falls : List ℕ → Bool
never_falls [] = true
never_falls (a ∷ []) = true
never_falls (a ∷ b ∷ xs) = leb a b && never_falls (b ∷ xs)

-- A list of so many numbers that never falls, from 0 to a last one: the cumulative table and the layers' endpoints.
abbrev pub rising : ℕ → ℕ → List ℕ → Bool
rising size last xs = eqb (length xs) size && eqb (get_or xs 0 1) 0 && eqb (get_or xs (size - 1) 0) last && never_falls xs

-- "M+2 bounds, first 0, last 2^64−1, never falling."
abbrev pub cumulative_table : ℕ → List ℕ → Bool
cumulative_table M bounds = rising (M + 2) (2 ^ 64 - 1) bounds

-- "The magnitude is the largest index up to M whose bound is at most the 64-bit word."
unfoldable pub magnitude : List ℕ → ℕ → ℕ → ℕ
magnitude bounds zero w = 0
magnitude bounds (suc m) w = cond (leb (get_or bounds (suc m) 0) w) (suc m) (magnitude bounds m w)

-- A magnitude with its sign.
abbrev pub with_sign : Bool → ℕ → ℤ
with_sign positive m = cond positive (pos m) (neg_ℤ (pos m))

-- "An odd word is positive."
abbrev pub cumulative_value : ℕ → List ℕ → ℕ → ℤ
cumulative_value M bounds w = with_sign (eqb (w % 2) 1) (magnitude bounds M w)

abbrev pub cumulative : ℕ → List ℕ → ℕ → Rule
cumulative M bounds n = wide_words n (cumulative_value M bounds)
