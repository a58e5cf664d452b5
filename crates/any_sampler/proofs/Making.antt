-- Making of either kind refuses with a number up to 5.
use Prim.Native.Nat.{ℕ, ◌≤◌}
use native.Mathlib.Omega.{arith}
use mathlib.Core.Bool.{Bool, true, false, cond}
use Rattle.std.specs.Prelude.{Float}
use Rattle.distr.specs.declared.secret_key_distr.SecretKeyDistr.{SecretKeyDistr}
use Rattle.distr.specs.declared.secret_key_distr.SecretKeyDistr.TheVariants.{UniformBinary, Binary, SparseTernary, UniformTernary, Ternary, FixedHammingWeightBinary, BlockBinary, FixedHammingWeightTernary, FixedCompositionTernary, Gaussian}
use Rattle.distr.specs.declared.error_distribution.ErrorDistribution.{ErrorDistribution}
use Rattle.distr.specs.declared.error_distribution.ErrorDistribution.TheVariants.{CenteredBinomial, Gaussian as ErrorGaussian}
use Rattle.distr.specs.Distribution.{secret, error}
use Rattle.distr.specs.Making.{making_number, secret_number, error_number, gaussian_number}

-- a number that a test gives, or one that is small as well
refuse_few : (b : Bool) (n k : ℕ) → n ≤ 5 → k ≤ 5 → cond b n k ≤ 5
refuse_few true n k first second = first
refuse_few false n k first second = second

gaussian_few : (deviation : Float) → gaussian_number deviation ≤ 5
gaussian_few deviation = search (arith, refuse_few)

pub secret_few : (d : SecretKeyDistr) → making_number (secret d) ≤ 5
unfolding making_number secret_number
secret_few UniformBinary = omega arith
secret_few (Binary p) = search (arith, refuse_few)
secret_few SparseTernary = omega arith
secret_few UniformTernary = omega arith
secret_few (Ternary minus plus) = search (arith, refuse_few)
secret_few (FixedHammingWeightBinary h) = omega arith
secret_few (BlockBinary size occupancy) = search (arith, refuse_few)
secret_few (FixedHammingWeightTernary h) = omega arith
secret_few (FixedCompositionTernary minus ones) = omega arith
secret_few (Gaussian deviation) = gaussian_few deviation

pub error_few : (d : ErrorDistribution) → making_number (error d) ≤ 5
unfolding making_number error_number
error_few (ErrorGaussian deviation) = gaussian_few deviation
error_few (CenteredBinomial eta) = search (arith, refuse_few)
