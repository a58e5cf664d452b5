-- Making a sampler: the numbers 1 to 5, and the largest magnitude of what it draws.
use Rattle.std.specs.Prelude.{ℕ, ◌-◌, ◌^◌, Bool, not, cond, ◌&&◌, ◌||◌, leb, ltb, eqb, Float}
use Rattle.std.specs.Float.{binary64}
use Rattle.std.specs.Float.Ieee.{mul, sub, lt}
use Rattle.std.specs.Float.Ieee.Scale.{finite}
use Rattle.distr.specs.declared.secret_key_distr.SecretKeyDistr.{SecretKeyDistr}
use Rattle.distr.specs.declared.secret_key_distr.SecretKeyDistr.TheVariants.{UniformBinary, Binary, SparseTernary, UniformTernary, Ternary, FixedHammingWeightBinary, BlockBinary, FixedHammingWeightTernary, FixedCompositionTernary, Gaussian}
use Rattle.distr.specs.declared.secret_key_distr.BlockOccupancy.{BlockOccupancy}
use Rattle.distr.specs.declared.error_distribution.ErrorDistribution.{ErrorDistribution}
use Rattle.distr.specs.declared.error_distribution.ErrorDistribution.TheVariants.{CenteredBinomial, Gaussian as ErrorGaussian}
use Rattle.distr.specs.Blocks.{categories}
use Rattle.distr.specs.Constants.{literal, eta_limit, least_deviation, support_limit, invalid_probabilities, invalid_deviation, support_too_large, invalid_eta, invalid_block_size}
use Rattle.distr.specs.Gaussian.{support}
use Rattle.distr.specs.Layered.{in_unit}
use Rattle.distr.specs.Distribution.{Distr, secret, error, on_deviation}

-- The number where the test holds, else 0.
abbrev pub refuse : Bool → ℕ → ℕ
refuse test number = cond test number 0

-- "A probability not finite, outside 0..1."
abbrev pub bad_probability : Float → Bool
bad_probability p = not (finite p && in_unit p)

-- "Or negative > 1.0 − positive in f64."
abbrev pub bad_probabilities : Float → Float → Bool
bad_probabilities minus plus = bad_probability minus || bad_probability plus || lt (sub binary64 (literal 1 1) plus) minus

-- "Deviation not finite, below 0.7, or its square or doubled square not finite."
abbrev pub bad_deviation : Float → Bool
bad_deviation deviation =
    let square = mul binary64 deviation deviation in
    not (finite deviation) || lt deviation least_deviation || not (finite square) || not (finite (mul binary64 (literal 2 1) square))

-- "Making a Gaussian: 2 before 3."
abbrev pub gaussian_number : Float → ℕ
gaussian_number deviation = cond (bad_deviation deviation) invalid_deviation (refuse (ltb support_limit (support deviation)) support_too_large)

-- "Block size 0, or 2^64−1 with `AtMostOne`": no categories that a u64 can number.
abbrev pub bad_block : ℕ → BlockOccupancy → Bool
bad_block size occupancy = eqb size 0 || ltb (2 ^ 64 - 1) (categories size occupancy)

unfoldable pub secret_number : SecretKeyDistr → ℕ
secret_number UniformBinary = 0
secret_number (Binary p) = refuse (bad_probability p) invalid_probabilities
secret_number SparseTernary = 0
secret_number UniformTernary = 0
secret_number (Ternary minus plus) = refuse (bad_probabilities minus plus) invalid_probabilities
secret_number (FixedHammingWeightBinary h) = 0
secret_number (BlockBinary size occupancy) = refuse (bad_block size occupancy) invalid_block_size
secret_number (FixedHammingWeightTernary h) = 0
secret_number (FixedCompositionTernary minus ones) = 0
secret_number (Gaussian deviation) = gaussian_number deviation

-- "Eta outside 1..32."
unfoldable pub error_number : ErrorDistribution → ℕ
error_number (ErrorGaussian deviation) = gaussian_number deviation
error_number (CenteredBinomial eta) = refuse (not (leb 1 eta && leb eta eta_limit)) invalid_eta

-- The number of making a sampler of a distribution; 0 is a sampler.
unfoldable pub making_number : Distr → ℕ
making_number (secret d) = secret_number d
making_number (error d) = error_number d

-- "Largest magnitude (M, eta, else 1)."
unfoldable pub largest : Distr → ℕ
largest (secret d) = on_deviation (secret d) support 1
largest (error (ErrorGaussian deviation)) = support deviation
largest (error (CenteredBinomial eta)) = eta
