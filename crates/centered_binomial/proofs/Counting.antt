-- The counts of a word's two masked parts are the two sums of the centered binomial.
use mathlib.Core.Path.{◌≡◌, sym, ap, ap₂, ◌∙◌}
use mathlib.Core.Bool.{Bool, true, cond}
use Prim.Native.Nat.{ℕ, ◌*◌, ◌/◌, ◌%◌, ◌^◌, ◌≤◌}
use native.Mathlib.Nat.{add-zero}
use native.Mathlib.Omega.{arith}
use lib.Bits.{bit_and, and_mask, and_high}
use lib.IntN.{ℤ, pos, ◌-ℤ◌}
use lib.Count.{ones, ones_cat}
use lib.Pow.{pow_pos, ones_lt, high_ones, shl_exact}
use Rattle.distr.specs.CenteredBinomial.{first_sum, second_sum, binomial_value}
use Rattle.distr.proofs.BitSums.{first-ones, second_ones}
use Rattle.centered_binomial.specs.declared.CenteredBinomialParameters.{CenteredBinomialParameters}
use Rattle.centered_binomial.specs.Binomial.{is_made_binomial, upper_mask}
use Rattle.centered_binomial.proofs.Made.{made-small, made_mask}

-- zeros below a number add no ones
moved-ones : (k a : ℕ) → ones (a * 2 ^ k) ≡ ones a
unfolding ones
moved-ones k a = ap ones (sym (add-zero (a * 2 ^ k))) ∙ ones_cat k a 0 (pow_pos k) ∙ add-zero (ones a)

module _ (s : CenteredBinomialParameters) (made : is_made_binomial s ≡ true) where
  -- the ones under the mask
  low_count : (w : ℕ) → ones (bit_and w s.mask) ≡ first_sum s.eta w
  low_count w =
      let small : s.eta ≤ 32 = made-small s made in
      rw (made_mask s made, and_mask w s.eta) (sym (first-ones 64 s.eta w (omega arith)))

  -- the ones under the mask above it
  upper_count : (upper w : ℕ) → upper ≡ upper_mask s → ones (bit_and w upper) ≡ second_sum s.eta w
  upper_count upper w e =
      let small : s.eta ≤ 32 = made-small s made in
      rw (e, made_mask s made, ← high_ones s.eta s.eta, and_high w s.eta s.eta, moved-ones s.eta (w / 2 ^ s.eta % 2 ^ s.eta))
      (sym (second_ones 64 s.eta w (omega arith)))

  -- the mask above it fits a word
  pub upper_fits : s.mask * 2 ^ s.eta % 2 ^ 64 ≡ upper_mask s
  upper_fits =
      let small : s.eta ≤ 32 = made-small s made in
      rw (made_mask s made) (shl_exact s.eta s.eta 64 (ones_lt s.eta) (omega arith))

  -- the mask that `upper_mask` makes
  pub upper-made : {upper : ℕ} → upper ≡ cond (is_made_binomial s) (upper_mask s) 0 → upper ≡ upper_mask s
  upper-made e = e ∙ ap (λ (b : Bool). cond b (upper_mask s) 0) made

  -- what f gives for the difference of what `ones_of` counts under both masks
  pub counted : {A : Type 0} (f : ℤ → A) (w : ℕ) {upper x y : ℕ} {v : A} → upper ≡ cond (is_made_binomial s) (upper_mask s) 0
      → x ≡ ones (bit_and w s.mask) → y ≡ ones (bit_and w upper) → v ≡ f (pos x -ℤ pos y) → v ≡ f (binomial_value s.eta w)
  counted f w {upper} e p q h = h ∙ ap₂ (λ (x y : ℕ). f (pos x -ℤ pos y)) (p ∙ low_count w) (q ∙ upper_count upper w (upper-made e))
