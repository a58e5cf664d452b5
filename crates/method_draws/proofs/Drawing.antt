-- A method prepared for a distribution draws as the distribution does, however the output holds coefficients, and skips what it skips.
use mathlib.Core.Path.{◌≡◌, refl, ap, ◌∙◌}
use mathlib.Core.Bool.{true, not}
use mathlib.Core.List.{List, [], ◌∷◌}
use Prim.Native.Nat.{ℕ, ◌+◌, ◌-◌, ◌^◌, ◌<◌, ◌≤◌}
use native.Mathlib.Omega.{arith}
use borrow.Author.Tests.{eq-eqb, le-leb, lt-leb}
use lib.ListN.{length}
use lib.IntN.{ℤ}
use Rattle.distr.specs.declared.secret_key_distr.SecretKeyDistr.{SecretKeyDistr}
use Rattle.distr.specs.declared.secret_key_distr.SecretKeyDistr.TheVariants as Distr
use Rattle.distr.specs.declared.error_distribution.ErrorDistribution.{ErrorDistribution}
use Rattle.distr.specs.declared.error_distribution.ErrorDistribution.TheVariants as Error
use Rattle.distr.specs.Skipped.{Skipped, skipped_words}
use Rattle.distr.specs.Answers.{reported}
use Rattle.distr.specs.Rule.{Rule}
use Rattle.distr.specs.Thresholds.{threshold, binary}
use Rattle.distr.specs.declared.gaussian_parameters.GaussianParameters.{GaussianParameters}
use Rattle.distr.specs.Gaussian.{support, cumulative, cumulative_table}
use Rattle.distr.specs.Layered.{layered, passed_layered}
use Rattle.distr.specs.Distribution.{Distr, secret, error, Tables, on_deviation, secret_rule, error_rule, rule, coefficients, skips_of}
use Rattle.distr.specs.Making.{refuse, error_number, making_number, largest}
use Rattle.distr.specs.Numbers.{first_of, bad_weight, bad_blocks, length_number, layer_number, layer_index, gaussian_table, table_number, table_index}
use Rattle.distr.specs.Draw.{Outcome, naming, read_draw, rule_draw}
use Rattle.distr.proofs.FirstWrong.{layer_unnamed}
use Rattle.probability.proofs.Made.{flagged-value}
use Rattle.ternary.proofs.Sampling.{sampler_rule_lem}
use Rattle.draw_laws.proofs.Joining.{first_alone, first-before}
use Rattle.draw_laws.proofs.Small.{first_below, length-below}
use Rattle.draw_laws.proofs.Naming.{read_named}
use Rattle.draw_laws.proofs.Sampled.{distribution_number, distribution_draw}
use Rattle.centered_binomial.specs.Binomial.{is_made_binomial, parameters_of}
use Rattle.signed_discrete_gaussian.proofs.Backends.{draw-small, draw_large}
use Rattle.methods.specs.declared.SamplingMethod.{SamplingMethod}
use Rattle.methods.specs.declared.SamplingMethod.TheVariants.{Gaussian}
use Rattle.methods.specs.Method.{magnitude_of, length_of}
use Rattle.secret_key_method.specs.Method.{prepared}
use Rattle.secret_key_method.proofs.Prepared.{prepared-magnitude as secret-magnitude, prepared-length as secret-length}
use Rattle.error_method.specs.Method.{prepared as prepared_error}
use Rattle.error_method.proofs.Prepared.{prepared-magnitude as error-magnitude, prepared-length as error-length}
use Rattle.method_draws.specs.Drawing.{prepared_method, method_draw, method_skips}

-- the parameters that are prepared for an accepted eta pass their family's test
pub prepared-binomial : (eta : ℕ) → error_number (Error.CenteredBinomial eta) ≡ 0 → is_made_binomial (parameters_of eta) ≡ true
prepared-binomial eta e = rw (e, eq-eqb (2 ^ eta - 1) (2 ^ eta - 1) refl)

module _ {A : Type 0} (write : List ℤ → List A) (tables : Tables) (words : List ℕ) (place : ℕ) (out : List A) where
  -- by a number that the distribution's comes to
  by_number : (d : SecretKeyDistr) (k : ℕ) → distribution_number (secret d) tables (length out) ≡ k
      → read_draw write k (coefficients (secret d) (length out) tables) words place out ≡ distribution_draw write (secret d) tables words place out
  by_number d k e = rw e

  -- The draw of a distribution with the index that goes with its number.
  abbrev pub named_draw : Distr → Outcome A
  named_draw d = naming (table_index d tables) (distribution_draw write d tables words place out)

  -- one that judges no table has index 0
  plain : (d : Distr) → table_number d tables ≡ 0 → distribution_draw write d tables words place out ≡ named_draw d
  unfolding first_of
  plain d e =
      read_named (table_index d tables) (layer_unnamed (largest d) tables.layers) write (distribution_number d tables (length out))
      (coefficients d (length out) tables) words place out
      (first_below (length_number d (length out)) (table_number d tables ∷ []) (omega (arith, length-below d (length out)))
      (first_below (table_number d tables) [] (omega (arith, e)) (omega arith)))

  secret-draw : (d : SecretKeyDistr) → method_draw write (prepared d) tables words place out ≡ named_draw (secret d)
  unfolding method_draw prepared rule_draw length_number table_number on_deviation coefficients rule secret_rule first_of largest
  secret-draw Distr.UniformBinary = plain (secret Distr.UniformBinary) refl
  secret-draw (Distr.Binary p) =
      ap (λ (t : ℕ). rule_draw write 0 (binary t (length out)) words place out) (flagged-value (threshold p)) ∙ plain (secret (Distr.Binary p)) refl
  secret-draw Distr.SparseTernary = plain (secret Distr.SparseTernary) refl
  secret-draw Distr.UniformTernary = plain (secret Distr.UniformTernary) refl
  secret-draw (Distr.Ternary minus plus) =
      ap (λ (r : Rule). rule_draw write 0 r words place out) (sampler_rule_lem (threshold minus) (threshold plus) (length out))
      ∙ plain (secret (Distr.Ternary minus plus)) refl
  secret-draw (Distr.FixedHammingWeightBinary h) =
      by_number (Distr.FixedHammingWeightBinary h) (bad_weight h (length out)) (first-before (bad_weight h (length out)) (0 ∷ []) refl)
      ∙ plain (secret (Distr.FixedHammingWeightBinary h)) refl
  secret-draw (Distr.BlockBinary size occupancy) =
      by_number (Distr.BlockBinary size occupancy) (bad_blocks size (length out)) (first-before (bad_blocks size (length out)) (0 ∷ []) refl)
      ∙ plain (secret (Distr.BlockBinary size occupancy)) refl
  secret-draw (Distr.FixedHammingWeightTernary h) =
      by_number (Distr.FixedHammingWeightTernary h) (bad_weight h (length out)) (first-before (bad_weight h (length out)) (0 ∷ []) refl)
      ∙ plain (secret (Distr.FixedHammingWeightTernary h)) refl
  secret-draw (Distr.FixedCompositionTernary minus ones) =
      by_number (Distr.FixedCompositionTernary minus ones) (bad_weight (minus + ones) (length out))
      (first-before (bad_weight (minus + ones) (length out)) (0 ∷ []) refl)
      ∙ plain (secret (Distr.FixedCompositionTernary minus ones)) refl
  secret-draw (Distr.Gaussian deviation) =
      ap (naming (table_index (secret (Distr.Gaussian deviation)) tables))
      (by_number (Distr.Gaussian deviation) (gaussian_table (support deviation) tables) (first-before (gaussian_table (support deviation) tables) [] refl))

  error-draw : (d : ErrorDistribution) → error_number d ≡ 0 → method_draw write (prepared_error d) tables words place out ≡ named_draw (error d)
  unfolding method_draw prepared_error rule_draw length_number table_number on_deviation coefficients rule error_rule first_of largest
  error-draw (Error.Gaussian deviation) e = rw (first_alone (gaussian_table (support deviation) tables))
  error-draw (Error.CenteredBinomial eta) e = rw (prepared-binomial eta e) (plain (error (Error.CenteredBinomial eta)) refl)

  -- a Gaussian's method is drawn by the cumulative table, or by the layers
  module _ {method : SamplingMethod} {parameters : GaussianParameters} (e : method ≡ Gaussian parameters) {o : Outcome A} where
    pub by-table : parameters.maximum_magnitude ≤ 255
        → o ≡ rule_draw write (refuse (not (cumulative_table parameters.maximum_magnitude tables.bounds)) 12)
        (cumulative parameters.maximum_magnitude tables.bounds (length out)) words place out
        → o ≡ method_draw write method tables words place out
    unfolding method_draw
    by-table h drawn = rw e (draw-small write parameters.standard_deviation parameters.maximum_magnitude tables words place out o h drawn)

    pub by-layers : 255 < parameters.maximum_magnitude
        → o ≡ naming (layer_index parameters.maximum_magnitude tables.layers) (read_draw write (layer_number parameters.maximum_magnitude tables.layers)
        (λ ws. layered parameters.standard_deviation tables.layers (length out) ws) words place out)
        → o ≡ method_draw write method tables words place out
    unfolding method_draw
    by-layers h drawn = rw e (draw_large write parameters.standard_deviation parameters.maximum_magnitude tables words place out o h drawn)

  pub prepared-draw : (d : Distr) → making_number d ≡ 0 → method_draw write (prepared_method d) tables words place out ≡ named_draw d
  unfolding prepared_method making_number
  prepared-draw (secret d) z = secret-draw d
  prepared-draw (error d) z = error-draw d z

-- What a prepared method skips is what its distribution skips.
module _ (tables : Tables) (n : ℕ) (ws : List ℕ) where
  secret-skips : (d : SecretKeyDistr) → method_skips (prepared d) tables n ws ≡ skips_of (secret d) n tables ws
  unfolding method_skips prepared skips_of on_deviation rule secret_rule
  secret-skips Distr.UniformBinary = refl
  secret-skips (Distr.Binary p) = ap (λ (t : ℕ). (binary t n).skips ws) (flagged-value (threshold p))
  secret-skips Distr.SparseTernary = refl
  secret-skips Distr.UniformTernary = refl
  secret-skips (Distr.Ternary minus plus) = ap (λ (r : Rule). r.skips ws) (sampler_rule_lem (threshold minus) (threshold plus) n)
  secret-skips (Distr.FixedHammingWeightBinary h) = refl
  secret-skips (Distr.BlockBinary size occupancy) = refl
  secret-skips (Distr.FixedHammingWeightTernary h) = refl
  secret-skips (Distr.FixedCompositionTernary minus ones) = refl
  secret-skips (Distr.Gaussian deviation) = refl

  error-skips : (d : ErrorDistribution) → method_skips (prepared_error d) tables n ws ≡ skips_of (error d) n tables ws
  unfolding method_skips prepared_error skips_of on_deviation rule error_rule
  error-skips (Error.Gaussian deviation) = refl
  error-skips (Error.CenteredBinomial eta) = refl

  pub prepared-skips : (d : Distr) → method_skips (prepared_method d) tables n ws ≡ skips_of d n tables ws
  unfolding prepared_method
  prepared-skips (secret d) = secret-skips d
  prepared-skips (error d) = error-skips d

  -- what is reported of a Gaussian's method is what its backend skips
  module _ {method : SamplingMethod} {parameters : GaussianParameters} (e : method ≡ Gaussian parameters) (number : ℕ) {s : Skipped} where
    pub skips-by-table : parameters.maximum_magnitude ≤ 255
        → s ≡ reported number ((cumulative parameters.maximum_magnitude tables.bounds n).skips ws)
        → s ≡ reported number (method_skips method tables n ws)
    unfolding method_skips
    skips-by-table h said = rw (e, le-leb parameters.maximum_magnitude 255 h) said

    pub skips-by-layers : 255 < parameters.maximum_magnitude
        → s ≡ reported number (skipped_words (passed_layered parameters.standard_deviation tables.layers n ws))
        → s ≡ reported number (method_skips method tables n ws)
    unfolding method_skips
    skips-by-layers h said = rw (e, lt-leb parameters.maximum_magnitude 255 h) said

-- What a prepared method keeps is its distribution's.
pub prepared-magnitude : (d : Distr) → magnitude_of (prepared_method d) ≡ largest d
unfolding prepared_method
prepared-magnitude (secret d) = secret-magnitude d
prepared-magnitude (error d) = error-magnitude d

pub prepared-length : (d : Distr) (n : ℕ) → length_of (prepared_method d) n ≡ length_number d n
unfolding prepared_method
prepared-length (secret d) n = secret-length d n
prepared-length (error d) n = error-length d n
