use Rattle.std.proofs.Common.{arith}
use Rattle.fixed_weights.proofs.PlanRules.{plan_short, plan_done}
use Rattle.fixed_weights.proofs.insertion.insert_plan.Goals as goal

pub returns-in_err-next-clause-inserts : goal.returns-in_err-next-clause-inserts
returns-in_err-next-clause-inserts g c =
    rw c.from_residual.ensures
    (plan_short (g.met.T.Output.held_each c.args.encoding) c.args.plan _ c.encoded-first.ensures c.encoded.ensures c.fill.ensures c.requires.room _ _
    c.in_err-next.ensures.inserts)

pub returns-clause-inserts : goal.returns-clause-inserts
returns-clause-inserts g c =
    plan_done (g.met.T.Output.held_each c.args.encoding) c.args.plan _ c.encoded-first.ensures c.encoded.ensures c.fill.ensures c.requires.room _ _ _ _
    c.encoded-second.ensures c.in_ok-next.ensures.inserts (omega (arith, c.insert_copies-2.ensures.keeps_length)) c.insert_copies-2.ensures.inserts
