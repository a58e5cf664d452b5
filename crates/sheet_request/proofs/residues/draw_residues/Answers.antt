-- `residues::draw_residues` answers the refusal of making, or judges the length and the modulus, or draws the coefficients and makes residues of them.
use mathlib.Core.Path.{refl}
use native.Mathlib.Omega.{arith}
use borrow.Author.Tests.{ne_eqb}
use Rattle.distr.proofs.Refusals.{refuses}
use Rattle.distr.proofs.Skipping.{refusal_reports}
use Rattle.prepared_draws.specs.Drawing.{prepared_draw_by, prepared_skips}
use Rattle.sheet_request.proofs.Values.{any_values, values_asked, values-drawn}
use Rattle.sheet_request.proofs.residues.draw_residues.Goals as goal

pub returns-in-Err : goal.returns-in-Err
unfolding prepared_draw_by
returns-in-Err c =
    let a = c.args in
    let both = any_values a.modulus a.words.now a.place a.output.now _ a.found c.prepare-prepared.ensures (omega arith)
    (rw (c.in-Err.is, c.refused.ensures), refusal_reports _ _ c.refused.ensures) in
    record { output_after = both.0; result_value = both.1 }

pub returns-in-Err-check_residues : goal.returns-in-Err-check_residues
unfolding prepared_draw_by
returns-in-Err-check_residues c =
    let a = c.args in
    let both = any_values a.modulus a.words.now a.place a.output.now _ a.found c.prepare-prepared.ensures (omega arith) (
      rw (c.in-Ok.is, c.refused-in-Err-check_residues.ensures)
          (values_asked a.modulus a.words.now a.place a.output.now c.in-Ok.method c.in-Err-check_residues.ensures (refuses _) c.first_refusal-first.ensures),
      refusal_reports _ _ c.refused-in-Err-check_residues.ensures,
    ) in
    record { output_after = both.0; result_value = both.1 }

pub returns-then-answer-eq0 : goal.returns-then-answer-eq0
unfolding prepared_draw_by prepared_skips
returns-then-answer-eq0 c =
    let a = c.args in
    let drawn = c.sample_signed_to-answer.ensures in
    let both = any_values a.modulus a.words.now a.place a.output.now _ a.found c.prepare-prepared.ensures (omega arith) (
      rw c.in-Ok.is
          (values-drawn a.modulus a.words.now a.place a.output.now c.in-Ok.method c.in_default.ensures refl
          c.sample_signed_to-answer.result drawn.output_after (rw c.if-answer-eq0.true c.encode_all.ensures)),
      rw c.in-Ok.is drawn.result_value,
    ) in
    record { output_after = both.0; result_value = both.1 }

pub returns-else-answer-eq0 : goal.returns-else-answer-eq0
unfolding prepared_draw_by prepared_skips
returns-else-answer-eq0 c =
    let a = c.args in
    let drawn = c.sample_signed_to-answer.ensures in
    let both = any_values a.modulus a.words.now a.place a.output.now _ a.found c.prepare-prepared.ensures (omega arith) (
      rw c.in-Ok.is
          (values-drawn a.modulus a.words.now a.place a.output.now c.in-Ok.method c.in_default.ensures refl
          c.sample_signed_to-answer.result drawn.output_after (rw (ne_eqb _ 0 c.if-answer-eq0.false))),
      rw c.in-Ok.is drawn.result_value,
    ) in
    record { output_after = both.0; result_value = both.1 }
