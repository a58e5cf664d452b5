-- A prepared method: its largest magnitude, and what it takes of lengths.
use Rattle.std.specs.Prelude.{ℕ, ◌+◌}
use Rattle.distr.specs.Numbers.{bad_weight, bad_blocks}
use Rattle.methods.specs.declared.SamplingMethod.{SamplingMethod}
use Rattle.methods.specs.declared.SamplingMethod.TheVariants.{UniformBinary, Binary, SparseTernary, UniformTernary, Ternary, Empty}
use Rattle.methods.specs.declared.SamplingMethod.TheVariants.{FixedHammingWeightBinary, BlockBinary, Gaussian, CenteredBinomial}
use Rattle.methods.specs.declared.SamplingMethod.TheVariants.{FixedHammingWeightTernary, FixedCompositionTernary}

-- "Largest magnitude (M, eta, else 1)", as the method keeps it.
abbrev pub magnitude_of : SamplingMethod → ℕ
magnitude_of UniformBinary = 1
magnitude_of (Binary t) = 1
magnitude_of SparseTernary = 1
magnitude_of UniformTernary = 1
magnitude_of (Ternary s) = 1
magnitude_of (FixedHammingWeightBinary h) = 1
magnitude_of (BlockBinary size occupancy) = 1
magnitude_of (FixedHammingWeightTernary h) = 1
magnitude_of (FixedCompositionTernary minus ones) = 1
magnitude_of (Gaussian parameters) = parameters.maximum_magnitude
magnitude_of (CenteredBinomial parameters) = parameters.eta
magnitude_of Empty = 1

-- "7 or 8", by the method.
abbrev pub length_of : SamplingMethod → ℕ → ℕ
length_of UniformBinary n = 0
length_of (Binary t) n = 0
length_of SparseTernary n = 0
length_of UniformTernary n = 0
length_of (Ternary s) n = 0
length_of (FixedHammingWeightBinary h) n = bad_weight h n
length_of (BlockBinary size occupancy) n = bad_blocks size n
length_of (FixedHammingWeightTernary h) n = bad_weight h n
length_of (FixedCompositionTernary minus ones) n = bad_weight (minus + ones) n
length_of (Gaussian parameters) n = 0
length_of (CenteredBinomial parameters) n = 0
length_of Empty n = 0
