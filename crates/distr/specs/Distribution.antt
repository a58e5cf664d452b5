-- The rule of each distribution: the enum `SecretKeyDistr`, and `ErrorDistribution`, which adds the centered binomial.
use Rattle.std.specs.Prelude.{ℕ, Bool, false, not, cond, List, leb, ℤ, Float}
use Rattle.distr.specs.declared.secret_key_distr.SecretKeyDistr.{SecretKeyDistr}
use Rattle.distr.specs.declared.secret_key_distr.SecretKeyDistr.TheVariants.{UniformBinary, Binary, SparseTernary, UniformTernary, Ternary, FixedHammingWeightBinary, BlockBinary, FixedHammingWeightTernary, FixedCompositionTernary, Gaussian}
use Rattle.distr.specs.declared.error_distribution.ErrorDistribution.{ErrorDistribution}
use Rattle.distr.specs.declared.error_distribution.ErrorDistribution.TheVariants.{CenteredBinomial, Gaussian as ErrorGaussian}
use Rattle.distr.specs.Words.{Read}
use Rattle.distr.specs.Skipped.{Skipped, skipped_words}
use Rattle.distr.specs.Rule.{Rule, read_by}
use Rattle.distr.specs.Packed.{uniform_binary, sparse_ternary}
use Rattle.distr.specs.UniformTernary.{uniform_ternary}
use Rattle.distr.specs.Thresholds.{threshold, binary, ternary}
use Rattle.distr.specs.Insertion.{fixed_composition, fixed_binary_weight, fixed_ternary_weight}
use Rattle.distr.specs.Blocks.{block_binary}
use Rattle.distr.specs.CenteredBinomial.{centered_binomial}
use Rattle.distr.specs.Constants.{cumulative_limit}
use Rattle.distr.specs.Gaussian.{support, cumulative}
use Rattle.distr.specs.Layered.{Layers, layered, passed_layered}

-- A distribution of either kind.
pub data Distr : Type 0 where
  secret : SecretKeyDistr → Distr
  error : ErrorDistribution → Distr

-- The lent tables: a cumulative one, and those of the layers.
pub record Tables : Type 0 where
  pub bounds : List ℕ
  pub layers : Layers

-- The rule of a distribution for n coefficients. A layered Gaussian has none; what stands here for it is never used (see `coefficients`).
unfoldable pub secret_rule : SecretKeyDistr → ℕ → List ℕ → Rule
secret_rule UniformBinary n bounds = uniform_binary n
secret_rule (Binary p) n bounds = binary (threshold p) n
secret_rule SparseTernary n bounds = sparse_ternary n
secret_rule UniformTernary n bounds = uniform_ternary n
secret_rule (Ternary minus plus) n bounds = ternary (threshold minus) (threshold plus) n
secret_rule (FixedHammingWeightBinary h) n bounds = fixed_binary_weight h n
secret_rule (BlockBinary size occupancy) n bounds = block_binary size occupancy n
secret_rule (FixedHammingWeightTernary h) n bounds = fixed_ternary_weight h n
secret_rule (FixedCompositionTernary minus ones) n bounds = fixed_composition minus ones n
secret_rule (Gaussian deviation) n bounds = cumulative (support deviation) bounds n

unfoldable pub error_rule : ErrorDistribution → ℕ → List ℕ → Rule
error_rule (ErrorGaussian deviation) n bounds = cumulative (support deviation) bounds n
error_rule (CenteredBinomial eta) n bounds = centered_binomial eta n

unfoldable pub rule : Distr → ℕ → List ℕ → Rule
rule (secret d) n bounds = secret_rule d n bounds
rule (error d) n bounds = error_rule d n bounds

-- What is asked of a Gaussian: its deviation. Other distributions have another part.
unfoldable pub on_deviation : {A : Type 0} → Distr → (Float → A) → A → A
on_deviation (secret UniformBinary) gaussian other = other
on_deviation (secret (Binary p)) gaussian other = other
on_deviation (secret SparseTernary) gaussian other = other
on_deviation (secret UniformTernary) gaussian other = other
on_deviation (secret (Ternary minus plus)) gaussian other = other
on_deviation (secret (FixedHammingWeightBinary h)) gaussian other = other
on_deviation (secret (BlockBinary size occupancy)) gaussian other = other
on_deviation (secret (FixedHammingWeightTernary h)) gaussian other = other
on_deviation (secret (FixedCompositionTernary minus ones)) gaussian other = other
on_deviation (secret (Gaussian deviation)) gaussian other = gaussian deviation
on_deviation (error (ErrorGaussian deviation)) gaussian other = gaussian deviation
on_deviation (error (CenteredBinomial eta)) gaussian other = other

-- A Gaussian whose support is above the cumulative tables' limit.
abbrev pub is_layered : Distr → Bool
is_layered d = on_deviation d (λ deviation. not (leb (support deviation) cumulative_limit)) false

-- The Gaussian's coefficients: "M ≤ 255 uses a lent cumulative table", a larger M the layers.
abbrev pub gaussian_read : Float → ℕ → Tables → ℕ → List ℕ → Read (List ℤ)
gaussian_read deviation M tables n ws =
    cond (leb M cumulative_limit) (read_by (cumulative M tables.bounds n) ws) (layered deviation tables.layers n ws)

-- The coefficients that the rules give from the words left.
unfoldable pub coefficients : Distr → ℕ → Tables → List ℕ → Read (List ℤ)
coefficients d n tables ws =
    on_deviation d (λ deviation. gaussian_read deviation (support deviation) tables n ws) (read_by (rule d n tables.bounds) ws)

-- 02 [1]: what is skipped while a Gaussian's coefficients are read.
abbrev pub gaussian_skips : Float → ℕ → Tables → ℕ → List ℕ → Skipped
gaussian_skips deviation M tables n ws =
    cond (leb M cumulative_limit) ((cumulative M tables.bounds n).skips ws) (skipped_words (passed_layered deviation tables.layers n ws))

-- 02 [1]: "the number of skipped words and bytes in the rules of document 01 for that call", beside `coefficients`.
unfoldable pub skips_of : Distr → ℕ → Tables → List ℕ → Skipped
skips_of d n tables ws =
    on_deviation d (λ deviation. gaussian_skips deviation (support deviation) tables n ws) ((rule d n tables.bounds).skips ws)
