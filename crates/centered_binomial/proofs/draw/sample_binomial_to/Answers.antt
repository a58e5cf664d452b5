use Rattle.std.proofs.Common.{refl, arith}
use Rattle.distr.proofs.Skipping.{reports_refused, success_reports, refusal_reports}
use Rattle.numbers.proofs.WideNumbers.{answer-enough}
use Rattle.centered_binomial.proofs.Drawing.{made, binomial_refused, binomial_read}
use Rattle.centered_binomial.proofs.draw.sample_binomial_to.Goals as goal

pub returns-then-not-is_made-clause-result_value : goal.returns-then-not-is_made-clause-result_value
returns-then-not-is_made-clause-result_value g c = reports_refused _ (λ z. omega arith) c.refused.ensures

pub fill-requires : goal.fill-requires
fill-requires g c = record {
  made = made _ c.is_made.ensures c.if-not-is_made.false;
  enough = answer-enough 0 _ _ _ c.in-Ok.ensures refl;
}

pub returns-in-Ok-clause-output_after : goal.returns-in-Ok-clause-output_after
returns-in-Ok-clause-output_after g c =
    let m = g.met.T.Output in
    binomial_read _ c.is_made.ensures c.if-not-is_made.false (m.held_each c.args.encoding) (m.natural_held c.args.encoding 0) _ _ _
    c.in-Ok.ensures c.succeeded.ensures (λ i. (c.type_inv.words i).fits) c.fill.ensures

pub returns-in-Ok-clause-result_value : goal.returns-in-Ok-clause-result_value
returns-in-Ok-clause-result_value g c = success_reports c.succeeded.ensures refl

pub returns-in-Err-clause-output_after : goal.returns-in-Err-clause-output_after
returns-in-Err-clause-output_after g c =
    let m = g.met.T.Output in
    binomial_refused _ c.is_made.ensures c.if-not-is_made.false (m.held_each c.args.encoding) (m.natural_held c.args.encoding 0) _ _ _ _
    c.in-Err.ensures c.refuse.ensures.answer c.refuse.ensures.output_after

pub returns-in-Err-clause-result_value : goal.returns-in-Err-clause-result_value
returns-in-Err-clause-result_value g c = refusal_reports _ _ c.refuse.ensures.answer
