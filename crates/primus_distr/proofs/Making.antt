-- Making the three samplers of the library's face: what the parts hand back is what the definitions say; and the empty ones are refused.
use Prim.Native.Nat.{ℕ}
use mathlib.Core.Path.{◌≡◌, refl, sym}
use mathlib.Core.Bool.{Bool, true, false, cond}
use lib.Ieee.{Float, round, le, lt, sub}
use Rattle.distr.specs.Making.{bad_probabilities, refuse, secret_number, error_number}
use Rattle.distr.specs.Thresholds.{threshold}
use Rattle.distr.proofs.Drawing.{not-refused}
use Rattle.ternary.specs.declared.ternary.TernaryEnds.{TernaryEnds}
use Rattle.ternary.specs.Sampler.{sampler_of}
use Rattle.secret_key_method.specs.Method.{prepared}
use Rattle.secret_key_sampler.specs.Sampler.{is_made}
use Rattle.error_sampler.specs.Sampler.{is_made as is_made_error}
use Rattle.primus_distr.specs.declared.ternary_sampler.MadeTernarySampler.{MadeTernarySampler}
use Rattle.primus_distr.specs.Views.{empty_ternary, making_ternary, as_key, empty_gaussian, as_error}
use Rattle.primus_distr.specs.Views.{empty_binomial, as_binomial_error}

-- Two probabilities that are refused, or whose ends are made.
one_or_made : (bad : Bool) {k : ℕ} (made : MadeTernarySampler) → k ≡ refuse bad 1 → (k ≡ 0 → ⊥)
    → record { number = k; sampler = empty_ternary } ≡ cond bad (record { number = 1; sampler = empty_ternary }) made
one_or_made true made e never = rw e
one_or_made false made e never = absurd (never e)

module _ (minus plus : Float) where
  pub ternary-refused : {k : ℕ} → k ≡ refuse (bad_probabilities minus plus) 1 → (k ≡ 0 → ⊥) → record { number = k; sampler = empty_ternary } ≡ making_ternary minus plus
  ternary-refused e = one_or_made (bad_probabilities minus plus) _ e

  pub ternary-made : 0 ≡ refuse (bad_probabilities minus plus) 1 → {ends : TernaryEnds} → ends ≡ sampler_of (threshold minus) (threshold plus)
      → record { number = 0; sampler = record { negative_one_probability = minus; one_probability = plus; ends = ends } } ≡ making_ternary minus plus
  ternary-made e f = rw (not-refused (bad_probabilities minus plus) 0 (sym e), f)

-- "The empty one included."
pub empty_ternary-not-made : is_made (as_key empty_ternary) ≡ false
unfolding secret_number prepared sampler_of round le sub
empty_ternary-not-made = refl

pub empty_gaussian_not-made : is_made_error (as_error empty_gaussian) ≡ false
unfolding error_number round lt
empty_gaussian_not-made = refl

pub empty_binomial-not-made : is_made_error (as_binomial_error empty_binomial) ≡ false
unfolding error_number
empty_binomial-not-made = refl
