use Rattle.std.proofs.Common.{refl, length, sym}
use borrow.Author.Rules.{rules}
use Rattle.distr.proofs.Refusals.{refuses}
use Rattle.distr.proofs.Skipping.{reported-nothing, refusal_reports}
use Rattle.prepared_draws.specs.Drawing.{prepared_draw_by, prepared_skips}
use Rattle.prepared_draws.proofs.Residues.{residues-above, encoded_asked, encoded_drawn}
use Rattle.prepared_draws.proofs.encoded.sample_encoded_to.Goals as goal

pub returns-in-Err : goal.returns-in-Err
unfolding prepared_draw_by prepared_skips
returns-in-Err g c = record { output_after = rw c.in-Err.is (search rules); result_value = rw (c.in-Err.is, c.refused.ensures) (reported-nothing _) }

pub returns-in-Err-check_residues : goal.returns-in-Err-check_residues
unfolding prepared_draw_by
returns-in-Err-check_residues g c = record {
  output_after = rw (c.in-Ok.is, c.refused-in-Err-check_residues.ensures)
      (encoded_asked _ _ _ _ _ _ c.in-Err-check_residues.ensures (refuses _) c.first_refusal-first.ensures);
  result_value = refusal_reports _ _ c.refused-in-Err-check_residues.ensures;
}

pub overflow_sub-minus_one : goal.overflow_sub-minus_one
overflow_sub-minus_one g c = residues-above c.in-Ok.method (length c.args.output.now) c.args.by.modulus (sym c.in_default.ensures)

pub returns : goal.returns
unfolding prepared_draw_by prepared_skips
returns g c = record {
  output_after = rw c.in-Ok.is (encoded_drawn _ _ _ _ _ _ c.in_default.ensures refl c.sample_to_with.ensures.output_after);
  result_value = rw c.in-Ok.is c.sample_to_with.ensures.result_value;
}
