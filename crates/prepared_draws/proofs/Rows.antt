-- The row of a CRT draw by a method: drawn where CRT draws serve it, and 21 where not.
use mathlib.Core.Path.{◌≡◌, refl, ◌∙◌}
use mathlib.Core.Bool.{true, false}
use mathlib.Core.List.{List}
use Prim.Native.Nat.{ℕ}
use native.Mathlib.Omega.{arith}
use lib.ListN.{length, drop}
use Rattle.distr.specs.declared.answer.Answer.{Answer}
use Rattle.centered_binomial.specs.declared.CenteredBinomialParameters.{CenteredBinomialParameters}
use Rattle.distr.specs.declared.gaussian_parameters.GaussianParameters.{GaussianParameters}
use Rattle.distr.specs.declared.secret_key_distr.BlockOccupancy.{BlockOccupancy}
use Rattle.distr.specs.declared.secret_key_distr.BlockOccupancy.TheVariants.{AtMostOne, ExactlyOne}
use Rattle.distr.specs.Answers.{refusal, sums, reported}
use Rattle.distr.specs.Constants.{never_made}
use Rattle.distr.specs.Distribution.{Tables}
use Rattle.distr.specs.Draw.{Outcome, outcome}
use Rattle.ternary.specs.declared.ternary.TernaryValue.TheVariants.{MinusOne, Zero, One}
use Rattle.ternary.specs.declared.ternary.TernaryEnds.{TernaryEnds}
use Rattle.ternary.specs.declared.ternary.TernaryEnds.TheVariants.{Constant, Nonzero, General}
use Rattle.methods.specs.declared.SamplingMethod.{SamplingMethod}
use Rattle.methods.specs.declared.SamplingMethod.TheVariants.{UniformBinary, Binary, SparseTernary, UniformTernary, Ternary, Empty}
use Rattle.methods.specs.declared.SamplingMethod.TheVariants.{FixedHammingWeightBinary, BlockBinary, Gaussian, CenteredBinomial}
use Rattle.methods.specs.declared.SamplingMethod.TheVariants.{FixedHammingWeightTernary, FixedCompositionTernary}
use Rattle.methods.specs.Keys.{is_served}
use Rattle.distr.proofs.Skipping.{reports_refused}
use Rattle.method_draws.specs.Drawing.{method_draw, method_skips}
use Rattle.prepared_draws.specs.Drawing.{as_native, row_draw}

-- the ternary methods are none of the two
pub ternary_apart : (s : TernaryEnds) → is_served (Ternary s) ≡ false
ternary_apart (Constant MinusOne) = refl
ternary_apart (Constant Zero) = refl
ternary_apart (Constant One) = refl
ternary_apart (Nonzero N) = refl
ternary_apart (General N E) = refl

pub blocks_apart : (size : ℕ) (occupancy : BlockOccupancy) → is_served (BlockBinary size occupancy) ≡ false
blocks_apart size AtMostOne = refl
blocks_apart size ExactlyOne = refl

-- and so is every other method that is none of them
pub unserved : (m : SamplingMethod) → ((p : GaussianParameters) → m ≡ Gaussian p → ⊥) → ((p : CenteredBinomialParameters) → m ≡ CenteredBinomial p → ⊥)
    → is_served m ≡ false
unserved UniformBinary g b = refl
unserved (Binary t) g b = refl
unserved SparseTernary g b = refl
unserved UniformTernary g b = refl
unserved (Ternary s) g b = ternary_apart s
unserved (FixedHammingWeightBinary h) g b = refl
unserved (BlockBinary size occupancy) g b = blocks_apart size occupancy
unserved (FixedHammingWeightTernary h) g b = refl
unserved (FixedCompositionTernary minus ones) g b = refl
unserved (Gaussian p) g b = absurd (g p refl)
unserved (CenteredBinomial p) g b = absurd (b p refl)
unserved Empty g b = refl

-- a method that was found to be m
module _ (tables : Tables) (words : List ℕ) (place : ℕ) (out : List ℕ) {m method : SamplingMethod} where
  row_apart : is_served m ≡ false → method ≡ m → {a : Answer} → a ≡ refusal never_made place → outcome a out ≡ row_draw method tables words place out
  unfolding row_draw
  row_apart h e f = rw (e, f, h)

  -- a row that is refused reports nothing skipped
  pub row-refused : is_served m ≡ false → method ≡ m → {a : Answer} → a ≡ refusal never_made place
      → (outcome a out ≡ row_draw method tables words place out) × (sums a ≡ reported a.number (method_skips method tables (length out) (drop place words)))
  row-refused h e f = (row_apart h e f, reports_refused _ (λ z. omega arith) f)

  pub row_served : is_served m ≡ true → method ≡ m → {o : Outcome ℕ} → o ≡ method_draw as_native method tables words place out
      → o ≡ row_draw method tables words place out
  unfolding row_draw
  row_served h e f = f ∙ rw (e, h)
