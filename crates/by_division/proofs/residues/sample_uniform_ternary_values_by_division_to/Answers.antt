-- The modulus is judged, and the draw is that of its distribution, which the rule's draw is.
use Rattle.std.proofs.Common.{refl, length, sym, arith}
use Rattle.distr.specs.Draw.{no_tables}
use Rattle.distr.proofs.Refusals.{refuses}
use Rattle.distr.proofs.Skipping.{refusal_reports}
use Rattle.methods.specs.declared.SamplingMethod.TheVariants.{UniformTernary}
use Rattle.method_draws.specs.Drawing.{method_draw}
use Rattle.prepared_draws.proofs.Residues.{residues-above, encoded_asked, encoded_drawn}
use Rattle.by_division.proofs.Answering.{residues-answered}
use Rattle.by_division.proofs.residues.sample_uniform_ternary_values_by_division_to.Goals as goal

pub returns-in-Err : goal.returns-in-Err
returns-in-Err c =
    let a = c.args in
    let both = residues-answered a.words.now a.place a.modulus a.output.now (omega arith) (
      rw c.refused.ensures
          (encoded_asked UniformTernary no_tables _ _ _ _ c.in-Err.ensures (refuses _) c.first_refusal-first.ensures),
      refusal_reports _ _ c.refused.ensures,
    ) in
    record { output_after = both.0; result_value = both.1 }

pub overflow_sub-minus_one : goal.overflow_sub-minus_one
overflow_sub-minus_one c = residues-above UniformTernary (length c.args.output.now) c.args.modulus (sym c.in_default.ensures)

pub returns : goal.returns
unfolding method_draw
returns c =
    let a = c.args in
    let drawn = c.sample_uniform_ternary_values_by_division_to.ensures in
    let both = residues-answered a.words.now a.place a.modulus a.output.now (omega arith)
    (encoded_drawn UniformTernary no_tables _ _ _ _ c.in_default.ensures refl drawn.output_after, drawn.result_value) in
    record { output_after = both.0; result_value = both.1 }
