use Rattle.std.proofs.Common.{sym, ap, ◌∙◌, replicate, inl, inr, refl, arith}
use Rattle.distr.specs.Refusals.{number_of}
use Rattle.distr.proofs.Refusals.{refuses}
use Rattle.distr.proofs.Skipping.{reports_refused}
use Rattle.ziggurat.proofs.Turning.{turning_none, turn_short, edge_on, turn_next}
use Rattle.ziggurat.proofs.sample_ziggurat_to.Goals as goal

pub returns-in-Err-clause-result_value : goal.returns-in-Err-clause-result_value
returns-in-Err-clause-result_value g c = reports_refused _ (refuses c.in-Err.why) c.refused_at.ensures

pub loop-i-init : goal.loop-i-init
loop-i-init g c =
    turning_none _ _ _ _ _ _ _ _ c.check_layer_tables-checked.ensures (rw c.refusal_of-own.ensures at c.check_draw.ensures) (ap number_of c.in_default.is)
    (g.met.T.Output.held_each c.args.encoding) c.zero_threshold-zero.ensures

pub returns-in_default-make_attempt-clause-output_after : goal.returns-in_default-make_attempt-clause-output_after
returns-in_default-make_attempt-clause-output_after g c =
    turn_short _ _ _ _ _ _ _ _ c.loop-i.invariant c.loop-i-test.true _ c.make_attempt.ensures c.in_default-make_attempt.is c.refused.ensures
    (c.clear.ensures ∙ ap (replicate _) (sym (g.met.T.Output.natural_held c.args.encoding 0)))

pub returns-in_default-make_attempt-clause-result_value : goal.returns-in_default-make_attempt-clause-result_value
returns-in_default-make_attempt-clause-result_value g c = reports_refused _ (λ z. omega arith) c.refused.ensures

pub passes_edge-passed-requires-clause-on_tables : goal.passes_edge-passed-requires-clause-on_tables
passes_edge-passed-requires-clause-on_tables g c = search edge_on

-- a trial inside the layer above passes, one at the edge as it is judged
pub loop-i-preserved-then-attempt : goal.loop-i-preserved-then-attempt
loop-i-preserved-then-attempt g c =
    turn_next _ _ _ _ _ _ _ _ c.loop-i.invariant c.loop-i-test.true _ c.make_attempt.ensures c.in-Some.is
    (g.met.T.Output.sign_held c.args.encoding) _ (inl (c.if-attempt.true, refl)) c.coefficient.ensures

pub loop-i-preserved : goal.loop-i-preserved
loop-i-preserved g c =
    turn_next _ _ _ _ _ _ _ _ c.loop-i.invariant c.loop-i-test.true _ c.make_attempt.ensures c.in-Some.is
    (g.met.T.Output.sign_held c.args.encoding) _ (inr (c.if-attempt.false, _, c.passes_edge-passed.ensures, refl)) c.coefficient-else-attempt.ensures
