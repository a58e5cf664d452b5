use Rattle.std.proofs.Common.{refl}
use borrow.Author.Rules.{rules}
use Rattle.distr.proofs.Refusals.{refuses}
use Rattle.distr.proofs.Skipping.{reported-nothing, refusal_reports}
use Rattle.prepared_draws.specs.Drawing.{prepared_draw_by, prepared_skips}
use Rattle.prepared_draws.proofs.Answers.{method-refused, method-drawn}
use Rattle.prepared_draws.proofs.Skips.{crt_reports}
use Rattle.prepared_draws.proofs.crt_draw.sample_crt_to.Goals as goal

pub returns-in-Err : goal.returns-in-Err
unfolding prepared_draw_by prepared_skips
returns-in-Err g c = record { output_after = rw c.in-Err.is (search rules); result_value = rw (c.in-Err.is, c.refused.ensures) (reported-nothing _) }

pub returns-in-Err-check_crt_draw : goal.returns-in-Err-check_crt_draw
unfolding prepared_draw_by
returns-in-Err-check_crt_draw g c = record {
  output_after = rw c.in-Ok.is
      (method-refused _ _ _ _ _ _ _ c.in-Err-check_crt_draw.ensures (refuses _) _ c.refused-in-Err-check_crt_draw.ensures);
  result_value = refusal_reports _ _ c.refused-in-Err-check_crt_draw.ensures;
}

pub returns : goal.returns
unfolding prepared_draw_by prepared_skips
returns g c =
    let a = c.args in record {
      output_after = rw c.in-Ok.is
          (method-drawn _ _ _ _ _ _ _ c.in_default.ensures refl c.draw_row-answer.result _ c.last_row-last.ensures c.draw_row-answer.ensures.output_after
          _ c.finish.ensures.output_after);
      result_value = rw (c.in-Ok.is, c.finish.ensures.value)
          (crt_reports _ _ a.coefficient_count a.moduli.now a.words.now a.place a.output.now c.in_default.ensures refl
          c.last_row-last.ensures _ c.draw_row-answer.ensures.result_value);
    }
