-- Two digits at a time: a digit of the square of a base is two digits of the base, and a table of pairs has what both stand for.
use mathlib.Core.Path.{◌≡◌, refl, sym, ap, ◌∙◌}
use mathlib.Core.Bool.{Bool, true, false}
use mathlib.Core.List.{List, [], ◌∷◌, ◌++◌}
use Prim.Native.Nat.{ℕ, zero, suc, ◌+◌, ◌-◌, ◌*◌, ◌/◌, ◌%◌, ◌<◌, ◌≤◌}
use native.Mathlib.Nat.{mod-lt, mod-eq_of_lt, div-eq_of_lt, mod-eq-sub-mod, div-eq-sub-div, mod-mod_of_dvd, dvd-mul_right, div-add-mod', div-lt_iff_lt-mul}
use native.Mathlib.Nat.{mul_assoc, mul-pos, suc-mul, zero-mul, mul-add-div_right, mul-add-mod_self_right, mul-le-mul_right}
use native.Mathlib.Numerals.{add-one}
use native.Mathlib.Omega.{arith}
use borrow.Author.Tests.{ltb-true, ltb-false}
use lib.Dec.{ltb}
use lib.ListN.{length, get_or, length-append, get_or-append}
use lib.Seq.{get_or-append-add}
use Rattle.packed.specs.Pairs.{row_of, rows_of, pairs_of, digit_value, Paired}

module _ (base : ℕ) (positive : 0 < base) (x : ℕ) where
  -- the low digit of a digit of base², and the high one
  pub low_digit : x % (base * base) % base ≡ x % base
  low_digit = mod-mod_of_dvd base x (dvd-mul_right base base)

  pub high_digit : x % (base * base) / base ≡ x / base % base
  high_digit =
      let r : ℕ = x % (base * base) in
      let y : ℕ = x / (base * base) in
      let whole : y * base * base + r ≡ x = ap (λ (n : ℕ). n + r) (mul_assoc y base base) ∙ div-add-mod' x (base * base) in
      sym (mod-eq_of_lt ((div-lt_iff_lt-mul positive).1 (mod-lt x (mul-pos positive positive))))
      ∙ sym (mul-add-mod_self_right y base (r / base))
      ∙ ap (λ (n : ℕ). n % base) (sym (mul-add-div_right positive (y * base) r) ∙ ap (λ (n : ℕ). n / base) whole)

module _ {A : Type 0} (z : A) where
  length-row : (high : A) (lows : List A) → length (row_of high lows) ≡ length lows * 2
  length-row high [] = refl
  length-row high (low ∷ lows) = omega (arith, length-row high lows)

  -- the pair d of a row
  row : (high : A) (lows : List A) (d : ℕ) → d < length lows
      → (get_or (row_of high lows) (d * 2) z ≡ get_or lows d z) × (get_or (row_of high lows) (d * 2 + 1) z ≡ high)
  row high [] d h = absurd (omega arith)
  row high (low ∷ lows) zero h = (refl, refl)
  row high (low ∷ lows) (suc d) h =
      let two : suc d * 2 ≡ suc (suc (d * 2)) = omega arith in
      let three : suc d * 2 + 1 ≡ suc (suc (d * 2 + 1)) = omega arith in
      let next = row high lows d (omega arith) in
      (rw two next.0, rw three next.1)

  length-rows : (highs lows : List A) → length (rows_of highs lows) ≡ length highs * length lows * 2
  length-rows [] lows = sym (ap (λ (n : ℕ). n * 2) (zero-mul (length lows)))
  length-rows (high ∷ highs) lows =
      length-append (row_of high lows) (rows_of highs lows)
      ∙ rw (length-row high lows, length-rows highs lows, suc-mul (length highs) (length lows)) (omega arith)

  -- the pair q of the rows
  abbrev PairAt : List A → List A → ℕ → Type 0
  PairAt highs lows q =
      (get_or (rows_of highs lows) (q * 2) z ≡ get_or lows (q % length lows) z) × (get_or (rows_of highs lows) (q * 2 + 1) z ≡ get_or highs (q / length lows) z)

  -- it stands in the first row, or in those after it
  rows_step : (high : A) (highs lows : List A) (q : ℕ) → 0 < length lows → q < suc (length highs) * length lows
      → ((r : ℕ) → r < length highs * length lows → PairAt highs lows r) → (t : Bool) → ltb q (length lows) ≡ t → PairAt (high ∷ highs) lows q
  rows_step high highs lows q p h next true e =
      let b : ℕ = length lows in
      let here : List A = row_of high lows in
      let l : q < b = ltb-true q b e in
      let size : length here ≡ b * 2 = length-row high lows in
      let pair = row high lows q l in (
        get_or-append here (rows_of highs lows) z (q * 2) (omega arith) ∙ pair.0 ∙ ap (λ (n : ℕ). get_or lows n z) (sym (mod-eq_of_lt l)),
        get_or-append here (rows_of highs lows) z (q * 2 + 1) (omega arith) ∙ pair.1 ∙ ap (λ (n : ℕ). get_or (high ∷ highs) n z) (sym (div-eq_of_lt l)),
      )
  rows_step high highs lows q p h next false e =
      let b : ℕ = length lows in
      let here : List A = row_of high lows in
      let there : List A = rows_of highs lows in
      let l : b ≤ q = ltb-false q b e in
      let r : ℕ = q - b in
      let size : length here ≡ b * 2 = length-row high lows in
      let less : q < length highs * b + b = rw (suc-mul (length highs) b) at h in
      let pair = next r (omega arith) in
      let low_at : q * 2 ≡ length here + r * 2 = omega arith in
      let high_at : q * 2 + 1 ≡ length here + (r * 2 + 1) = omega arith in (
        ap (λ (n : ℕ). get_or (here ++ there) n z) low_at ∙ get_or-append-add here there (r * 2) z ∙ pair.0
            ∙ ap (λ (n : ℕ). get_or lows n z) (sym (mod-eq-sub-mod l)),
        ap (λ (n : ℕ). get_or (here ++ there) n z) high_at ∙ get_or-append-add here there (r * 2 + 1) z ∙ pair.1
            ∙ ap (λ (n : ℕ). get_or (high ∷ highs) n z) (sym (div-eq-sub-div p l ∙ add-one (r / b))),
      )

  rows : (highs lows : List A) (q : ℕ) → 0 < length lows → q < length highs * length lows → PairAt highs lows q
  rows [] lows q p h = let none : q < 0 = rw (zero-mul (length lows)) at h in absurd (omega arith)
  rows (high ∷ highs) lows q p h = rows_step high highs lows q p h (λ r k. rows highs lows r p k) (ltb q (length lows)) refl

  module _ (values : List A) (positive : 0 < length values) where
    -- a digit alone
    pub digit_value_lem : (d : ℕ) → d < length values → digit_value z (pairs_of values) d ≡ get_or values d z
    digit_value_lem d h =
        let square : 1 * length values ≤ length values * length values = mul-le-mul_right (length values) positive in
        (rows values values d positive (omega arith)).0 ∙ ap (λ (n : ℕ). get_or values n z) (mod-eq_of_lt h)

    -- the table of pairs of the values
    pub paired : Paired (length values) z (pairs_of values)
    paired = record {
      positive = positive;
      sized = length-rows values values;
      low = λ q h. (rows values values q positive h).0 ∙ sym (digit_value_lem (q % length values) (mod-lt q positive));
      high = λ q h. (rows values values q positive h).1 ∙ sym (digit_value_lem (q / length values) ((div-lt_iff_lt-mul positive).1 h));
    }

-- the same of a table that is equal to it: its pairs, and its digits alone, where they are what a function gives
module _ {A : Type 0} (z : A) (values : List A) (positive : 0 < length values) {pairs : List A} (made : pairs ≡ pairs_of values) where
  pub made-paired : Paired (length values) z pairs
  made-paired = rw made (paired z values positive)

  pub made_agrees : (g : ℕ → A) → ((d : ℕ) → d < length values → get_or values d z ≡ g d) → (d : ℕ) → d < length values → digit_value z pairs d ≡ g d
  made_agrees g agree d h = ap (λ (ps : List A). digit_value z ps d) made ∙ digit_value_lem z values positive d h ∙ agree d h

-- A claim about the digits below two, three and four, one by one.
pub below_two : (P : ℕ → Type 0) → P 0 → P 1 → (d : ℕ) → d < 2 → P d
below_two P p₀ p₁ zero h = p₀
below_two P p₀ p₁ (suc zero) h = p₁
below_two P p₀ p₁ (suc (suc d)) h = absurd (omega arith)

pub below-three : (P : ℕ → Type 0) → P 0 → P 1 → P 2 → (d : ℕ) → d < 3 → P d
below-three P p₀ p₁ p₂ zero h = p₀
below-three P p₀ p₁ p₂ (suc d) h = below_two (λ k. P (suc k)) p₁ p₂ d (omega arith)

pub below_four : (P : ℕ → Type 0) → P 0 → P 1 → P 2 → P 3 → (d : ℕ) → d < 4 → P d
below_four P p₀ p₁ p₂ p₃ zero h = p₀
below_four P p₀ p₁ p₂ p₃ (suc d) h = below-three (λ k. P (suc k)) p₁ p₂ p₃ d (omega arith)

-- Tables of the pairs of two, three and four values: their digits are what a function gives that has these values.
module _ {A : Type 0} (z : A) {a b : A} {pairs : List A} (made : pairs ≡ pairs_of (a ∷ b ∷ [])) where
  pub two_agree : (g : ℕ → A) → a ≡ g 0 → b ≡ g 1 → (d : ℕ) → d < 2 → digit_value z pairs d ≡ g d
  two_agree g p₀ p₁ = made_agrees z (a ∷ b ∷ []) (omega arith) made g (below_two (λ d. get_or (a ∷ b ∷ []) d z ≡ g d) p₀ p₁)

module _ {A : Type 0} (z : A) {a b c : A} {pairs : List A} (made : pairs ≡ pairs_of (a ∷ b ∷ c ∷ [])) where
  pub three_paired : Paired 3 z pairs
  three_paired = made-paired z (a ∷ b ∷ c ∷ []) (omega arith) made

  pub three_agree : (g : ℕ → A) → a ≡ g 0 → b ≡ g 1 → c ≡ g 2 → (d : ℕ) → d < 3 → digit_value z pairs d ≡ g d
  three_agree g p₀ p₁ p₂ = made_agrees z (a ∷ b ∷ c ∷ []) (omega arith) made g (below-three (λ d. get_or (a ∷ b ∷ c ∷ []) d z ≡ g d) p₀ p₁ p₂)

module _ {A : Type 0} (z : A) {a b c d : A} {pairs : List A} (made : pairs ≡ pairs_of (a ∷ b ∷ c ∷ d ∷ [])) where
  pub four_paired : Paired 4 z pairs
  four_paired = made-paired z (a ∷ b ∷ c ∷ d ∷ []) (omega arith) made

  pub four_agree : (g : ℕ → A) → a ≡ g 0 → b ≡ g 1 → c ≡ g 2 → d ≡ g 3 → (k : ℕ) → k < 4 → digit_value z pairs k ≡ g k
  four_agree g p₀ p₁ p₂ p₃ = made_agrees z (a ∷ b ∷ c ∷ d ∷ []) (omega arith) made g (below_four (λ k. get_or (a ∷ b ∷ c ∷ d ∷ []) k z ≡ g k) p₀ p₁ p₂ p₃)
