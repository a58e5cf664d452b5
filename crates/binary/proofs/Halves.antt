-- A word is below an end where its half is below the end's, both rounded up for an odd end and else down.
use mathlib.Core.Path.{◌≡◌, refl}
use mathlib.Core.Bool.{Bool, true, false}
use Prim.Native.Nat.{ℕ, ◌+◌, ◌-◌, ◌/◌, ◌%◌, ◌^◌, ◌<◌, ◌≤◌}
use native.Mathlib.Omega.{arith}
use borrow.Author.Tests.{ltb-true, ltb-false}
use lib.Bits.{bit_and, and_mask, and_zero_r}
use lib.Dec.{ltb}
use mir.Val.{bool_byte}
use Rattle.output.proofs.Naturals.{bit-most}
use Rattle.binary.specs.Below.{one_below, end_of}

-- an end with its own last bit
pub even-end : (below : ℕ) → below % 2 ≡ 0 → end_of below false ≡ below
even-end below e = omega arith

pub odd_end : (below : ℕ) → (below % 2 ≡ 0 → ⊥) → end_of below true ≡ below
odd_end below e = omega arith

-- the half of a word, and what it is taken from
abbrev half : Bool → ℕ → ℕ
half odd w = w / 2 + bit_and w (bool_byte odd)

abbrev bound : ℕ → Bool → ℕ
bound below odd = 2 ^ 63 - 1 + below / 2 + bool_byte odd

module _ (w : ℕ) (small : w < 2 ^ 64) where
  -- the half of a word is at most 2^63
  half-most : (odd : Bool) → half odd w ≤ 2 ^ 63 - 1 + bool_byte odd
  half-most true = omega (arith, and_mask w 1)
  half-most false = omega (arith, and_zero_r w)

  pub half-fits : (odd : Bool) → half odd w < 2 ^ 64
  half-fits odd = omega (arith, half-most odd, bit-most odd)

  pub half-within : (below : ℕ) (odd : Bool) → half odd w ≤ bound below odd
  half-within below odd = omega (arith, half-most odd)

  -- the bound leaves 2^63 or more where the word is below the end
  pub half_tells : (below : ℕ) (odd : Bool) → below < 2 ^ 64 → (bound below odd - half odd w) / 2 ^ 63 ≡ one_below (end_of below odd) w
  unfolding one_below
  half_tells below odd h = go odd (ltb w (end_of below odd)) refl
    where
      go : (odd t : Bool) → ltb w (end_of below odd) ≡ t → (bound below odd - half odd w) / 2 ^ 63 ≡ bool_byte t
      go true true e = let l : w < end_of below true = ltb-true w (end_of below true) e in omega (arith, and_mask w 1)
      go true false e = let l : end_of below true ≤ w = ltb-false w (end_of below true) e in omega (arith, and_mask w 1)
      go false true e = let l : w < end_of below false = ltb-true w (end_of below false) e in omega (arith, and_zero_r w)
      go false false e = let l : end_of below false ≤ w = ltb-false w (end_of below false) e in omega (arith, and_zero_r w)
