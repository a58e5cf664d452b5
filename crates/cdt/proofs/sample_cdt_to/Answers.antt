use Rattle.std.proofs.Common.{refl}
use Rattle.distr.proofs.Skipping.{success_reports, refusal_reports}
use Rattle.cdt.proofs.Drawing.{cdt_ready, cdt_refused, cdt_read}
use Rattle.cdt.proofs.sample_cdt_to.Goals as goal

pub fill-requires : goal.fill-requires
fill-requires g c =
    let a = c.args in
    let t = g.met.T.Output in
    cdt_ready _ _ (t.held_each a.encoding) (t.natural_held a.encoding 0) a.maximum_magnitude a.bounds.now _ _ a.output.now c.check_table-own.ensures c.in-Ok.ensures

pub returns-in-Ok-clause-output_after : goal.returns-in-Ok-clause-output_after
returns-in-Ok-clause-output_after g c =
    let a = c.args in
    let t = g.met.T.Output in
    cdt_read _ _ (t.held_each a.encoding) (t.natural_held a.encoding 0) a.maximum_magnitude a.bounds.now _ _ _ c.check_table-own.ensures
    {final = c.fill.new.output} c.in-Ok.ensures c.succeeded.ensures (λ i. (c.type_inv.words i).fits) c.fill.ensures

pub returns-in-Err-clause-output_after : goal.returns-in-Err-clause-output_after
returns-in-Err-clause-output_after g c =
    let a = c.args in
    let t = g.met.T.Output in
    cdt_refused _ _ (t.held_each a.encoding) (t.natural_held a.encoding 0) a.maximum_magnitude a.bounds.now _ _ _ c.check_table-own.ensures
    {final = c.refuse.new.output} _ c.in-Err.ensures c.refuse.ensures.answer c.refuse.ensures.output_after

pub returns-in-Err-clause-result_value : goal.returns-in-Err-clause-result_value
returns-in-Err-clause-result_value g c = refusal_reports _ _ c.refuse.ensures.answer

pub returns-in-Ok-clause-result_value : goal.returns-in-Ok-clause-result_value
returns-in-Ok-clause-result_value g c = success_reports c.succeeded.ensures refl
