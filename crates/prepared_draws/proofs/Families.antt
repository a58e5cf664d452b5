-- The distributions that CRT draws serve, a Gaussian of either sampler and the centered binomial, each with its prepared method; another gives 21.
use mathlib.Core.Path.{◌≡◌, refl, sym}
use mathlib.Core.Bool.{Bool, true, false, cond}
use mathlib.Core.List.{List}
use Prim.Native.Nat.{ℕ, ◌≤◌}
use native.Mathlib.Omega.{arith}
use borrow.Author.Tests.{eq-eqb, ltb-false}
use lib.Dec.{ltb}
use lib.ListN.{length}
use lib.Ieee.{Float}
use Rattle.distr.specs.declared.secret_key_distr.SecretKeyDistr.{SecretKeyDistr}
use Rattle.distr.specs.declared.secret_key_distr.SecretKeyDistr.TheVariants as Secret
use Rattle.distr.specs.declared.error_distribution.ErrorDistribution.{ErrorDistribution}
use Rattle.distr.specs.declared.error_distribution.ErrorDistribution.TheVariants as Error
use Rattle.distr.specs.Constants.{support_limit}
use Rattle.distr.specs.Words.{map_read, many}
use Rattle.distr.specs.Gaussian.{support}
use Rattle.distr.specs.CenteredBinomial.{binomial_value}
use Rattle.distr.specs.Thresholds.{threshold}
use Rattle.distr.specs.Distribution.{Distr, secret, error, Tables, on_deviation, error_rule, rule, coefficients}
use Rattle.distr.specs.Making.{refuse, bad_deviation, gaussian_number, secret_number, error_number, making_number, largest}
use Rattle.distr.specs.Numbers.{first_of, serves_crt, table_number, table_index}
use Rattle.distr.specs.Draw.{judged, rule_draw, crt_draw}
use Rattle.centered_binomial.specs.Binomial.{parameters_of}
use Rattle.centered_binomial.proofs.Made.{eta_small}
use Rattle.ternary.specs.Sampler.{sampler_of}
use Rattle.distr.proofs.FirstWrong.{layer_unnamed}
use Rattle.draw_laws.proofs.Small.{table_apart}
use Rattle.draw_laws.proofs.Naming.{read_named}
use Rattle.draw_laws.proofs.Crt.{crt_unmade}
use Rattle.draw_laws.proofs.Bounds.{gaussian_within, binomial-within}
use Rattle.methods.specs.declared.SamplingMethod.{SamplingMethod}
use Rattle.methods.specs.declared.SamplingMethod.TheVariants.{Gaussian, CenteredBinomial}
use Rattle.methods.specs.Keys.{is_served}
use Rattle.secret_key_method.specs.Method.{prepared}
use Rattle.error_method.specs.Method.{prepared as prepared_error}
use Rattle.method_draws.specs.Drawing.{prepared_method, method_draw}
use Rattle.method_draws.proofs.Drawing.{prepared-binomial}
use Rattle.prepared_draws.specs.Drawing.{crt_number, as_native, crt_by}
use Rattle.prepared_draws.proofs.Rows.{ternary_apart, blocks_apart}
use Rattle.prepared_draws.proofs.Served.{words_count, gaussian_counts, gaussian_none, Serves, method_crt}

-- the support of an accepted deviation is small
support-small : (deviation : Float) → gaussian_number deviation ≡ 0 → support deviation ≤ support_limit
support-small deviation = go (bad_deviation deviation) (ltb support_limit (support deviation)) refl
  where
    go : (bad large : Bool) → ltb support_limit (support deviation) ≡ large → cond bad 2 (refuse large 3) ≡ 0 → support deviation ≤ support_limit
    go true large f z = absurd (omega arith)
    go false true f z = absurd (omega arith)
    go false false f z = ltb-false support_limit (support deviation) f

-- What a deviation prepares.
abbrev gaussian_of : Float → SamplingMethod
gaussian_of deviation = Gaussian (record { standard_deviation = deviation; maximum_magnitude = support deviation })

serves_gaussian : (tables : Tables) (deviation : Float) → gaussian_number deviation ≡ 0 → Serves (secret (Secret.Gaussian deviation)) (gaussian_of deviation) tables
unfolding serves_crt on_deviation largest table_number coefficients method_draw
serves_gaussian tables deviation accepted =
    record {
      served = refl;
      serves = refl;
      magnitude = refl;
      small = omega (arith, support-small deviation accepted);
      table = (table_apart (secret (Secret.Gaussian deviation)) tables).1;
      draws = λ words place out. refl;
      counts = gaussian_counts deviation (support deviation) tables;
      within = gaussian_within deviation (support deviation) tables;
      none = gaussian_none deviation (support deviation) tables;
    }

serves_binomial : (tables : Tables) (eta : ℕ) → error_number (Error.CenteredBinomial eta) ≡ 0
    → Serves (error (Error.CenteredBinomial eta)) (CenteredBinomial (parameters_of eta)) tables
unfolding serves_crt on_deviation largest table_number coefficients rule error_rule method_draw rule_draw map_read many
serves_binomial tables eta accepted =
    let made = prepared-binomial eta accepted in
    record {
      served = refl;
      serves = refl;
      magnitude = refl;
      small = omega (arith, eta_small eta (eq-eqb (error_number (Error.CenteredBinomial eta)) 0 accepted));
      table = (table_apart (error (Error.CenteredBinomial eta)) tables).1;
      draws = λ words place out.
          rw made
          (read_named (table_index (error (Error.CenteredBinomial eta)) tables) (layer_unnamed eta tables.layers) as_native 0
          (coefficients (error (Error.CenteredBinomial eta)) (length out) tables) words place out (omega arith));
      counts = λ n. words_count n (binomial_value eta);
      within = λ z. binomial-within eta;
      none = λ ws. refl;
    }

module _ (tables : Tables) (count : ℕ) (moduli words : List ℕ) (place : ℕ) (out : List ℕ) where
  -- "Another sampler gives 21."
  neither : (m : SamplingMethod) (d : Distr) → is_served m ≡ false → serves_crt d ≡ false
      → crt_by m tables count moduli words place out ≡ crt_draw true d tables count moduli words place out
  unfolding crt_by judged crt_number first_of
  neither m d mine e = rw mine (sym (crt_unmade d tables count moduli words place out true e))

  apart : (d : SecretKeyDistr) → is_served (prepared d) ≡ false → serves_crt (secret d) ≡ false
      → crt_by (prepared d) tables count moduli words place out ≡ crt_draw true (secret d) tables count moduli words place out
  apart d = neither (prepared d) (secret d)

  secret_crt : (d : SecretKeyDistr) → secret_number d ≡ 0
      → crt_by (prepared d) tables count moduli words place out ≡ crt_draw true (secret d) tables count moduli words place out
  unfolding secret_number serves_crt on_deviation prepared
  secret_crt Secret.UniformBinary z = apart Secret.UniformBinary refl refl
  secret_crt (Secret.Binary p) z = apart (Secret.Binary p) refl refl
  secret_crt Secret.SparseTernary z = apart Secret.SparseTernary refl refl
  secret_crt Secret.UniformTernary z = apart Secret.UniformTernary refl refl
  secret_crt (Secret.Ternary minus plus) z = apart (Secret.Ternary minus plus) (ternary_apart (sampler_of (threshold minus) (threshold plus))) refl
  secret_crt (Secret.FixedHammingWeightBinary h) z = apart (Secret.FixedHammingWeightBinary h) refl refl
  secret_crt (Secret.BlockBinary size occupancy) z = apart (Secret.BlockBinary size occupancy) (blocks_apart size occupancy) refl
  secret_crt (Secret.FixedHammingWeightTernary h) z = apart (Secret.FixedHammingWeightTernary h) refl refl
  secret_crt (Secret.FixedCompositionTernary minus ones) z = apart (Secret.FixedCompositionTernary minus ones) refl refl
  secret_crt (Secret.Gaussian deviation) z = method_crt (serves_gaussian tables deviation z) count moduli words place out

  -- an error of the same deviation is the same draw as a key
  error_crt : (d : ErrorDistribution) → error_number d ≡ 0
      → crt_by (prepared_error d) tables count moduli words place out ≡ crt_draw true (error d) tables count moduli words place out
  unfolding error_number prepared_error crt_draw serves_crt largest table_number on_deviation coefficients
  error_crt (Error.Gaussian deviation) z = method_crt (serves_gaussian tables deviation z) count moduli words place out
  error_crt (Error.CenteredBinomial eta) z = method_crt (serves_binomial tables eta z) count moduli words place out

  pub crt_of : (d : Distr) → making_number d ≡ 0
      → crt_by (prepared_method d) tables count moduli words place out ≡ crt_draw true d tables count moduli words place out
  unfolding prepared_method making_number
  crt_of (secret d) z = secret_crt d z
  crt_of (error d) z = error_crt d z
