-- What the rule of uniform ternary draws is what its distribution draws for a caller that has no sampler: making it refuses nothing, and its method is that of the rule.
use mathlib.Core.Path.{refl}
use mathlib.Core.List.{List}
use Prim.Native.Nat.{ℕ, ◌^◌, ◌<◌}
use lib.ListN.{length, drop}
use lib.IntN.{ℤ}
use Rattle.std.specs.Prelude.{Ok}
use Rattle.distr.specs.declared.answer.Answer.{Answer}
use Rattle.distr.specs.declared.secret_key_distr.SecretKeyDistr.TheVariants.{UniformTernary}
use Rattle.distr.specs.Distribution.{secret, skips_of}
use Rattle.distr.specs.UniformTernary.{uniform_ternary}
use Rattle.distr.specs.Making.{making_number, secret_number}
use Rattle.distr.specs.Draw.{judged, rule_draw, no_tables, signed_at_once, encoded_at_once}
use Rattle.methods.specs.declared.SamplingMethod.TheVariants.{UniformTernary as ByTrits}
use Rattle.method_draws.specs.Drawing.{prepared_method, method_draw, method_skips}
use Rattle.secret_key_method.specs.Method.{prepared}
use Rattle.prepared_draws.specs.Drawing.{prepared_draw_by, prepared_skips, encoded_by}
use Rattle.prepared_draws.proofs.Calls.{Answered, once_signed, once_encoded}

module _ (words : List ℕ) (place : ℕ) {r : Answer} where
  pub signed-answered : (out : List ℤ) {after : List ℤ}
      → Answered r after (rule_draw (λ cs. cs) 0 (uniform_ternary (length out)) words place out) ((uniform_ternary (length out)).skips (drop place words))
      → Answered r after (signed_at_once (secret UniformTernary) words place out) (skips_of (secret UniformTernary) (length out) no_tables (drop place words))
  unfolding signed_at_once judged making_number secret_number prepared_method prepared method_draw method_skips prepared_draw_by prepared_skips
  signed-answered out said = once_signed (secret UniformTernary) no_tables words place (Ok ByTrits) (refl, refl) out said

  pub residues-answered : (q : ℕ) (out : List ℕ) {after : List ℕ} → length out < 2 ^ 64
      → Answered r after (encoded_by ByTrits no_tables q words place out) ((uniform_ternary (length out)).skips (drop place words))
      → Answered r after (encoded_at_once (secret UniformTernary) q words place out) (skips_of (secret UniformTernary) (length out) no_tables (drop place words))
  unfolding encoded_at_once judged making_number secret_number prepared_method prepared method_skips prepared_draw_by prepared_skips
  residues-answered q out few said = once_encoded (secret UniformTernary) no_tables words place (Ok ByTrits) (refl, refl) q out few said
