use borrow.Author.Rules.{rules}
use Rattle.distr.proofs.Skipping.{reported-nothing}
use Rattle.prepared_draws.specs.Drawing.{prepared_draw_by, prepared_skips}
use Rattle.prepared_draws.proofs.signed.sample_signed_to.Goals as goal

pub returns-in-Err : goal.returns-in-Err
unfolding prepared_draw_by prepared_skips
returns-in-Err g c = record { output_after = rw c.in-Err.is (search rules); result_value = rw (c.in-Err.is, c.refused.ensures) (reported-nothing _) }

pub returns : goal.returns
unfolding prepared_draw_by prepared_skips
returns g c = record { output_after = rw c.in-Ok.is c.sample_to_with.ensures.output_after; result_value = rw c.in-Ok.is c.sample_to_with.ensures.result_value }
