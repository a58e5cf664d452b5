use Rattle.std.proofs.Common.{ap, ◌∙◌, length, replicate}
use Rattle.distr.proofs.Skipping.{success_reports, refusal_reports}
use Rattle.ternary.proofs.Plans.{sampler_skips, plan_enough, plan_refused, plan_constant, plan_read}
use Rattle.ternary.proofs.draw.sample_to.Goals.{in-Constant, in-Read}
use Rattle.ternary.proofs.draw.sample_to.Goals as goal

pub fill-requires-in-Read : goal.fill-requires-in-Read
fill-requires-in-Read g c =
    let t = g.met.T.Output in
    plan_enough (t.held_each c.args.encoding) (t.natural_held c.args.encoding 0) _ _ _ _ c.plan_of-plan.ensures c.reads.ensures c.in-Ok.ensures c.in-Read.is

pub returns-after-plan-clause-output_after : goal.returns-after-plan-clause-output_after
returns-after-plan-clause-output_after g c =
    let t = g.met.T.Output in
    elim c.match-plan.branch [
      | in-Constant w ↦ plan_constant (t.held_each c.args.encoding) (t.natural_held c.args.encoding 0) _ _ _ _ c.plan_of-plan.ensures c.reads.ensures {final = c.match-plan.output}
          c.in-Ok.ensures c.succeeded.ensures w.in-Constant.is
          (w.output-is ∙ w.fill.ensures ∙ ap (replicate (length c.args.output.now)) w.encoded.ensures)
      | in-Read w ↦ plan_read (t.held_each c.args.encoding) (t.natural_held c.args.encoding 0) _ _ _ _ c.plan_of-plan.ensures c.reads.ensures {final = c.match-plan.output}
          c.in-Ok.ensures c.succeeded.ensures w.in-Read.is (λ i. (c.type_inv.words i).fits) (rw w.output-is w.fill-in-Read.ensures)
    ]

pub returns-after-plan-clause-result_value : goal.returns-after-plan-clause-result_value
returns-after-plan-clause-result_value g c = success_reports c.succeeded.ensures (sampler_skips _ _ _)

pub returns-in-Err-clause-output_after : goal.returns-in-Err-clause-output_after
returns-in-Err-clause-output_after g c =
    let t = g.met.T.Output in
    plan_refused (t.held_each c.args.encoding) (t.natural_held c.args.encoding 0) _ _ _ _ c.plan_of-plan.ensures c.reads.ensures _ c.in-Err.ensures
    c.refuse.ensures.answer c.refuse.ensures.output_after

pub returns-in-Err-clause-result_value : goal.returns-in-Err-clause-result_value
returns-in-Err-clause-result_value g c = refusal_reports _ _ c.refuse.ensures.answer
