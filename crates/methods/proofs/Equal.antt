-- Two methods are equal, as a derived comparison has it, just where they have the same key.
use mathlib.Core.Path.{◌≡◌, refl}
use mathlib.Core.Bool.{and-true, and-false, and_comm}
use lib.Dec.{eqb}
use lib.Ieee.{eq, round}
use Rattle.distr.specs.declared.secret_key_distr.BlockOccupancy.TheVariants.{AtMostOne, ExactlyOne}
use Rattle.ternary.specs.declared.ternary.TernaryValue.TheVariants.{MinusOne, Zero, One}
use Rattle.ternary.specs.declared.ternary.TernaryEnds.TheVariants.{Constant, Nonzero, General}
use Rattle.methods.specs.declared.SamplingMethod.{SamplingMethod}
use Rattle.methods.specs.declared.SamplingMethod.TheVariants.{UniformBinary, Binary, SparseTernary, UniformTernary, Ternary, Empty}
use Rattle.methods.specs.declared.SamplingMethod.TheVariants.{FixedHammingWeightBinary, BlockBinary, Gaussian, CenteredBinomial}
use Rattle.methods.specs.declared.SamplingMethod.TheVariants.{FixedHammingWeightTernary, FixedCompositionTernary}
use Rattle.methods.specs.contracts.SamplingMethodPartialEq.TheImpl as derived
use Rattle.methods.specs.Keys.{same_key, method_key}

pub equal_same : (a b : SamplingMethod) → (derived.ghosts).eq a b ≡ same_key (method_key a) (method_key b)
unfolding eq round
equal_same UniformBinary UniformBinary = refl
equal_same (Binary s) (Binary t) = simp and-true
equal_same SparseTernary SparseTernary = refl
equal_same UniformTernary UniformTernary = refl
equal_same (Ternary (Constant MinusOne)) (Ternary (Constant MinusOne)) = refl
equal_same (Ternary (Constant Zero)) (Ternary (Constant Zero)) = refl
equal_same (Ternary (Constant One)) (Ternary (Constant One)) = refl
equal_same (Ternary (Nonzero N)) (Ternary (Nonzero M)) = simp and-true
equal_same (Ternary (General N E)) (Ternary (General M F)) = simp and-true
equal_same (FixedHammingWeightBinary h) (FixedHammingWeightBinary k) = simp and-true
equal_same (BlockBinary size AtMostOne) (BlockBinary other AtMostOne) = simp and-true
equal_same (BlockBinary size ExactlyOne) (BlockBinary other ExactlyOne) = simp and-true
equal_same (BlockBinary size AtMostOne) (BlockBinary other ExactlyOne) = simp and-false
equal_same (BlockBinary size ExactlyOne) (BlockBinary other AtMostOne) = simp and-false
equal_same (FixedHammingWeightTernary h) (FixedHammingWeightTernary k) = simp and-true
equal_same (FixedCompositionTernary minus ones) (FixedCompositionTernary less more) = simp and-true
equal_same (Gaussian s) (Gaussian t) =
    simp and-true (and_comm (eq s.standard_deviation t.standard_deviation) (eqb s.maximum_magnitude t.maximum_magnitude))
equal_same (CenteredBinomial s) (CenteredBinomial t) = simp and-true
equal_same Empty Empty = refl
-- other kinds: each is told apart, those of a ternary sampler and of blocks one by one
equal_same a (Ternary (Constant MinusOne)) = refl
equal_same a (BlockBinary size AtMostOne) = refl
equal_same a b = refl
