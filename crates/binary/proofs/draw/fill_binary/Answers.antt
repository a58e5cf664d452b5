use Rattle.std.proofs.Common.{length, replicate, sym, ap, arith, ◌∙◌}
use lib.Dec.{lit<}
use Rattle.distr.proofs.Skipping.{success_reports, refusal_reports}
use Rattle.numbers.proofs.WideDraws.{refuses_draw, ends-constant, ends_read, ends-enough}
use Rattle.binary.proofs.Values.{binary-rule, binary-skips}
use Rattle.binary.proofs.draw.fill_binary.Goals as goal

pub returns-then-threshold-clause-output_after : goal.returns-then-threshold-clause-output_after
returns-then-threshold-clause-output_after g c =
    let a = c.args in
    let m = g.met.T.Output in
    ends-constant (g.T.Output.held a.encoding) (g.T.Output.held_one a.encoding) (m.held_each a.encoding) (m.natural_held a.encoding 0) 0 (lit< tt) _ _ _ _ _ _ _
    (binary-rule a.threshold (length a.output.now) (omega (arith, c.well_formed.1.1.0))) c.in-Ok.ensures c.succeeded.ensures (rw c.if-threshold.true)
    (c.fill.ensures ∙ ap (replicate (length a.output.now)) (c.natural.ensures ∙ sym (m.natural_held a.encoding 1)))

pub returns-then-threshold-clause-result_value : goal.returns-then-threshold-clause-result_value
returns-then-threshold-clause-result_value g c = success_reports c.succeeded.ensures (binary-skips _ _ _)

pub fill-requires-in-Ok : goal.fill-requires-in-Ok
fill-requires-in-Ok g c =
    let a = c.args in
    let m = g.met.T.Output in
    ends-enough (g.T.Output.held a.encoding) (g.T.Output.held_one a.encoding) (m.held_each a.encoding) (m.natural_held a.encoding 0) 0 (lit< tt) _ _ _ _ _ _ _
    (binary-rule a.threshold (length a.output.now) (omega (arith, c.well_formed.1.1.0))) c.in-Ok.ensures (rw c.if-threshold.false)

pub returns-else-threshold-clause-output_after : goal.returns-else-threshold-clause-output_after
returns-else-threshold-clause-output_after g c =
    let a = c.args in
    let m = g.met.T.Output in
    ends_read (g.T.Output.held a.encoding) (g.T.Output.held_one a.encoding) (m.held_each a.encoding) (m.natural_held a.encoding 0) 0 (lit< tt) _ _ _ _ _ _ _
    (binary-rule a.threshold (length a.output.now) (omega (arith, c.well_formed.1.1.0))) c.in-Ok.ensures c.succeeded-in-Ok.ensures (rw c.if-threshold.false)
    (λ i. (c.type_inv.words i).fits) c.fill-in-Ok.ensures

pub returns-else-threshold-clause-result_value : goal.returns-else-threshold-clause-result_value
returns-else-threshold-clause-result_value g c = success_reports c.succeeded-in-Ok.ensures (binary-skips _ _ _)

pub returns-in-Err-clause-output_after : goal.returns-in-Err-clause-output_after
returns-in-Err-clause-output_after g c =
    let a = c.args in
    let m = g.met.T.Output in
    refuses_draw (g.T.Output.held a.encoding) (g.T.Output.held_one a.encoding) (m.held_each a.encoding) (m.natural_held a.encoding 0) 0 (lit< tt) _ _ _ _ _ _ _
    (binary-rule a.threshold (length a.output.now) (omega (arith, c.well_formed.1.1.0))) _ c.in-Err.ensures c.refuse.ensures.answer c.refuse.ensures.output_after

pub returns-in-Err-clause-result_value : goal.returns-in-Err-clause-result_value
returns-in-Err-clause-result_value g c = refusal_reports _ _ c.refuse.ensures.answer
