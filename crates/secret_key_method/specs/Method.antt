-- The method that is prepared for a secret-key distribution.
use Rattle.distr.specs.declared.secret_key_distr.SecretKeyDistr.{SecretKeyDistr}
use Rattle.distr.specs.declared.secret_key_distr.SecretKeyDistr.TheVariants as Distr
use Rattle.distr.specs.Thresholds.{threshold}
use Rattle.distr.specs.Gaussian.{support}
use Rattle.probability.specs.Made.{flagged}
use Rattle.ternary.specs.Sampler.{sampler_of}
use Rattle.methods.specs.declared.SamplingMethod.{SamplingMethod}
use Rattle.methods.specs.declared.SamplingMethod.TheVariants.{UniformBinary, Binary, SparseTernary, UniformTernary, Ternary}
use Rattle.methods.specs.declared.SamplingMethod.TheVariants.{FixedHammingWeightBinary, BlockBinary, Gaussian}
use Rattle.methods.specs.declared.SamplingMethod.TheVariants.{FixedHammingWeightTernary, FixedCompositionTernary}

unfoldable pub prepared : SecretKeyDistr → SamplingMethod
prepared Distr.UniformBinary = UniformBinary
prepared (Distr.Binary p) = Binary (flagged (threshold p))
prepared Distr.SparseTernary = SparseTernary
prepared Distr.UniformTernary = UniformTernary
prepared (Distr.Ternary minus plus) = Ternary (sampler_of (threshold minus) (threshold plus))
prepared (Distr.FixedHammingWeightBinary h) = FixedHammingWeightBinary h
prepared (Distr.BlockBinary size occupancy) = BlockBinary size occupancy
prepared (Distr.FixedHammingWeightTernary h) = FixedHammingWeightTernary h
prepared (Distr.FixedCompositionTernary minus ones) = FixedCompositionTernary minus ones
prepared (Distr.Gaussian deviation) = Gaussian (record { standard_deviation = deviation; maximum_magnitude = support deviation })
