-- What each prepared method draws, by the rule of its family. The branch by method promises it, for each type of the output.
use Rattle.std.specs.Prelude.{ℕ, ◌+◌, List, length, ℤ}
use Rattle.distr.specs.Packed.{uniform_binary, sparse_ternary}
use Rattle.distr.specs.UniformTernary.{uniform_ternary}
use Rattle.distr.specs.Thresholds.{binary}
use Rattle.distr.specs.Insertion.{fixed_composition, fixed_binary_weight, fixed_ternary_weight}
use Rattle.distr.specs.Blocks.{block_binary}
use Rattle.distr.specs.Skipped.{Skipped, nothing}
use Rattle.distr.specs.CenteredBinomial.{centered_binomial}
use Rattle.distr.specs.Distribution.{Distr, secret, error, Tables, gaussian_read, gaussian_skips}
use Rattle.distr.specs.Constants.{never_made}
use Rattle.distr.specs.Numbers.{bad_weight, bad_blocks, layer_index, gaussian_table}
use Rattle.distr.specs.Draw.{Outcome, naming, read_draw, rule_draw}
use Rattle.words.specs.Reading.{threshold_value}
use Rattle.ternary.specs.Sampler.{sampler_rule}
use Rattle.centered_binomial.specs.Binomial.{binomial_draw}
use Rattle.methods.specs.declared.SamplingMethod.{SamplingMethod}
use Rattle.methods.specs.declared.SamplingMethod.TheVariants.{UniformBinary, Binary, SparseTernary, UniformTernary, Ternary, Empty}
use Rattle.methods.specs.declared.SamplingMethod.TheVariants.{FixedHammingWeightBinary, BlockBinary, Gaussian, CenteredBinomial}
use Rattle.methods.specs.declared.SamplingMethod.TheVariants.{FixedHammingWeightTernary, FixedCompositionTernary}
use Rattle.secret_key_method.specs.Method.{prepared as prepared_secret}
use Rattle.error_method.specs.Method.{prepared as prepared_error}

-- The method that making prepares for a distribution of either kind, where its number is 0.
unfoldable pub prepared_method : Distr → SamplingMethod
prepared_method (secret d) = prepared_secret d
prepared_method (error d) = prepared_error d

-- What a method draws into the whole output; the empty one draws nothing. `write` says how coefficients are held in the output.
unfoldable pub method_draw : {A : Type 0} → (List ℤ → List A) → SamplingMethod → Tables → List ℕ → ℕ → List A → Outcome A
method_draw write UniformBinary tables words place out = rule_draw write 0 (uniform_binary (length out)) words place out
method_draw write (Binary t) tables words place out = rule_draw write 0 (binary (threshold_value t) (length out)) words place out
method_draw write SparseTernary tables words place out = rule_draw write 0 (sparse_ternary (length out)) words place out
method_draw write UniformTernary tables words place out = rule_draw write 0 (uniform_ternary (length out)) words place out
method_draw write (Ternary s) tables words place out = rule_draw write 0 (sampler_rule s (length out)) words place out
method_draw write (FixedHammingWeightBinary h) tables words place out =
    rule_draw write (bad_weight h (length out)) (fixed_binary_weight h (length out)) words place out
method_draw write (BlockBinary size occupancy) tables words place out =
    rule_draw write (bad_blocks size (length out)) (block_binary size occupancy (length out)) words place out
method_draw write (FixedHammingWeightTernary h) tables words place out =
    rule_draw write (bad_weight h (length out)) (fixed_ternary_weight h (length out)) words place out
method_draw write (FixedCompositionTernary minus ones) tables words place out =
    rule_draw write (bad_weight (minus + ones) (length out)) (fixed_composition minus ones (length out)) words place out
method_draw write (Gaussian parameters) tables words place out =
    naming (layer_index parameters.maximum_magnitude tables.layers)
    (read_draw write (gaussian_table parameters.maximum_magnitude tables)
    (λ ws. gaussian_read parameters.standard_deviation parameters.maximum_magnitude tables (length out) ws) words place out)
method_draw write (CenteredBinomial parameters) tables words place out = binomial_draw write parameters words place out
method_draw write Empty tables words place out = record { number = never_made; place = place; index = 0; output = out }

-- 02 [1]: what is skipped while a method draws n coefficients from the words left; the empty one draws nothing.
unfoldable pub method_skips : SamplingMethod → Tables → ℕ → List ℕ → Skipped
method_skips UniformBinary tables n ws = (uniform_binary n).skips ws
method_skips (Binary t) tables n ws = (binary (threshold_value t) n).skips ws
method_skips SparseTernary tables n ws = (sparse_ternary n).skips ws
method_skips UniformTernary tables n ws = (uniform_ternary n).skips ws
method_skips (Ternary s) tables n ws = (sampler_rule s n).skips ws
method_skips (FixedHammingWeightBinary h) tables n ws = (fixed_binary_weight h n).skips ws
method_skips (BlockBinary size occupancy) tables n ws = (block_binary size occupancy n).skips ws
method_skips (FixedHammingWeightTernary h) tables n ws = (fixed_ternary_weight h n).skips ws
method_skips (FixedCompositionTernary minus ones) tables n ws = (fixed_composition minus ones n).skips ws
method_skips (Gaussian parameters) tables n ws = gaussian_skips parameters.standard_deviation parameters.maximum_magnitude tables n ws
method_skips (CenteredBinomial parameters) tables n ws = (centered_binomial parameters.eta n).skips ws
method_skips Empty tables n ws = nothing
