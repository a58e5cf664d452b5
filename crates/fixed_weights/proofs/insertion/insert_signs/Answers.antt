use Rattle.std.proofs.Common.{sym, ◌∙◌}
use Rattle.fixed_weights.proofs.SignTurns.{signs_first, signs_next}
use Rattle.fixed_weights.proofs.insertion.insert_signs.Goals as goal

pub loop-i-init : goal.loop-i-init
loop-i-init g c =
    let laws = g.met.T.Output in
    signs_first _ _ _ _ _ (laws.held_each c.args.encoding) (c.natural-2.ensures ∙ sym (laws.natural_held c.args.encoding 0)) c.fill.ensures c.requires.room

pub loop-i-preserved : goal.loop-i-preserved
loop-i-preserved g c =
    let held = g.T.Output.held_one c.args.encoding in
    signs_next _ held _ _ _ _ _ _ _ _ c.loop-i.invariant c.loop-i-test.true _ c.in_ok-chosen.ensures _ c.minus_one.ensures
    (c.natural.ensures ∙ sym (g.met.T.Output.natural_held c.args.encoding 1)) c.insert_at.ensures
