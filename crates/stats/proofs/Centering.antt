-- The centered value of a residue: its magnitude, its part of the sum, and whether it is within a limit.
use Rattle.std.proofs.Common.{◌≡◌, ℕ, suc, ◌+◌, ◌-◌, ◌*◌, ◌/◌, ◌<◌, ◌≤◌, Bool, true, false, leb, List, [], ◌∷◌, length, pos, ◌+ℤ◌, sym, refl, ap, ◌∙◌, mul-zero, zero-add, mul-one, mul-add, arith, le-ltb, le-leb, leb-false, leb-true}
use native.Mathlib.Nat.{sub-zero}
use borrow.Author.Tests.{lt-leb}
use lib.IntN.{sub_ℕ}
use Rattle.stats.specs.Centered.{centered, centered_all, sum_of, squares_of, how_many_within, all_below}
use Rattle.stats.specs.Sums.{total, at_most, above_half, size_of}
use Rattle.stats.proofs.Below.{below-first, below_rest}
use Rattle.stats.proofs.Integers.{difference-is, differences_add, size_less}

-- a residue up to half the modulus, or above it
data Side (half r : ℕ) : Type 0 where
  lower : r ≤ half → Side half r
  upper : half < r → Side half r

side : (half r : ℕ) → Side half r
side half r = by (leb r half) refl
  where
    by : (b : Bool) → leb r half ≡ b → Side half r
    by true e = lower (leb-true r half e)
    by false e = upper (leb-false r half e)

pub at_most_one : (a b : ℕ) → a ≤ b → at_most a b ≡ 1
at_most_one a b h = rw (le-leb a b h)

pub at_most_none : (a b : ℕ) → b < a → at_most a b ≡ 0
at_most_none a b h = rw (lt-leb a b h)

-- at most 1
pub at_most-few : (a b : ℕ) → at_most a b ≤ 1
at_most-few a b = by (side b a)
  where
    by : Side b a → at_most a b ≤ 1
    by (lower h) = omega (arith, at_most_one a b h)
    by (upper h) = omega (arith, at_most_none a b h)

nothing_less : (r : ℕ) → sub_ℕ r 0 ≡ pos r
nothing_less r = rw (le-ltb r 0 (omega arith), sub-zero r)

module _ (modulus r : ℕ) where
  -- the centered value is the residue less the modulus, if the residue is above half
  centered-is : centered modulus r ≡ sub_ℕ r (modulus * above_half modulus r)
  unfolding centered
  centered-is = by (side (modulus / 2) r)
    where
      by : Side (modulus / 2) r → centered modulus r ≡ sub_ℕ r (modulus * above_half modulus r)
      by (lower h) = rw (le-leb r (modulus / 2) h, lt-leb (suc (modulus / 2)) r (omega arith), mul-zero modulus) (sym (nothing_less r))
      by (upper h) = rw (lt-leb r (modulus / 2) h, le-leb (suc (modulus / 2)) r h, mul-one modulus) (sym (difference-is r modulus))

  pub size_low : r ≤ modulus / 2 → size_of modulus r ≡ r
  unfolding centered
  size_low h = rw (le-leb r (modulus / 2) h)

  pub size-high : modulus / 2 < r → r < modulus → size_of modulus r ≡ modulus - r
  unfolding centered
  size-high h k = rw (lt-leb r (modulus / 2) h, ← difference-is r modulus) (size_less r modulus k)

  -- by the test of the code
  pub none_above : above_half modulus r ≡ 0 → r ≤ modulus / 2
  none_above e = by (side (modulus / 2) r)
    where
      by : Side (modulus / 2) r → r ≤ modulus / 2
      by (lower h) = h
      by (upper h) = absurd (omega (arith, at_most_one (suc (modulus / 2)) r h))

  pub some-above : (above_half modulus r ≡ 0 → ⊥) → modulus / 2 < r
  some-above e = by (side (modulus / 2) r)
    where
      by : Side (modulus / 2) r → modulus / 2 < r
      by (lower h) = absurd (e (at_most_none (suc (modulus / 2)) r (omega arith)))
      by (upper h) = h

  -- no magnitude exceeds half the modulus
  pub size-most : r < modulus → size_of modulus r ≤ modulus / 2
  size-most k = by (side (modulus / 2) r)
    where
      by : Side (modulus / 2) r → size_of modulus r ≤ modulus / 2
      by (lower h) = omega (arith, size_low h)
      by (upper h) = omega (arith, size-high h k)

  -- a limit below half is met from the one side or from the other
  pub within_sides : (limit : ℕ) → r < modulus → limit < modulus / 2
      → at_most (size_of modulus r) limit ≡ at_most r limit + at_most (modulus - limit) r
  within_sides limit k l = by (side (modulus / 2) r)
    where
      by : Side (modulus / 2) r → at_most (size_of modulus r) limit ≡ at_most r limit + at_most (modulus - limit) r
      by (lower h) = rw (size_low h, at_most_none (modulus - limit) r (omega arith)) (omega arith)
      by (upper h) = rw (size-high h k, at_most_none r limit (omega arith), zero-add (at_most (modulus - limit) r)) (turned (side r (modulus - limit)))
        where
          turned : Side r (modulus - limit) → at_most (modulus - r) limit ≡ at_most (modulus - limit) r
          turned (lower e) = at_most_one (modulus - r) limit (omega arith) ∙ sym (at_most_one (modulus - limit) r e)
          turned (upper e) = at_most_none (modulus - r) limit (omega arith) ∙ sym (at_most_none (modulus - limit) r e)

module _ (modulus : ℕ) where
  -- the sum of the centered values: the residues less the modulus for each that is above half
  pub sum_is : (rs : List ℕ) → sum_of (centered_all modulus rs) ≡ sub_ℕ (total (λ r. r) rs) (modulus * total (above_half modulus) rs)
  unfolding sum_of total
  sum_is [] = rw (mul-zero modulus)
  sum_is (r ∷ rs) =
      ap (λ z. z +ℤ sum_of (centered_all modulus rs)) (centered-is modulus r)
      ∙ ap (λ z. sub_ℕ r (modulus * above_half modulus r) +ℤ z) (sum_is rs)
      ∙ differences_add r (modulus * above_half modulus r) (total (λ x. x) rs) (modulus * total (above_half modulus) rs)
      ∙ ap (sub_ℕ (r + total (λ x. x) rs)) (sym (mul-add modulus (above_half modulus r) (total (above_half modulus) rs)))

  pub squares-is : (rs : List ℕ) → squares_of (centered_all modulus rs) ≡ total (λ r. size_of modulus r * size_of modulus r) rs
  unfolding squares_of total
  squares-is [] = refl
  squares-is (r ∷ rs) = ap (λ z. size_of modulus r * size_of modulus r + z) (squares-is rs)

  pub within-is : (limit : ℕ) (rs : List ℕ) → how_many_within limit (centered_all modulus rs) ≡ total (λ r. at_most (size_of modulus r) limit) rs
  unfolding how_many_within total
  within-is limit [] = refl
  within-is limit (r ∷ rs) = ap (λ z. at_most (size_of modulus r) limit + z) (within-is limit rs)

  -- a limit from half the modulus on counts all
  pub within_all : (limit : ℕ) (rs : List ℕ) → modulus / 2 ≤ limit → all_below modulus rs ≡ true
      → length rs ≡ how_many_within limit (centered_all modulus rs)
  unfolding how_many_within
  within_all limit [] h below = refl
  within_all limit (r ∷ rs) h below =
      rw (le-leb (size_of modulus r) limit (omega (arith, size-most modulus r (below-first modulus r rs below))))
      (ap suc (within_all limit rs h (below_rest modulus r rs below)) ∙ omega arith)
