use Rattle.std.proofs.Common.{sym, ap, ◌∙◌, arith}
use lib.Dec.{ltb}
use Rattle.output.proofs.Naturals.{natural_small, bit-most}
use Rattle.ternary.proofs.Plans.{value-below, value-above}
use Rattle.ternary.proofs.ends.element.Goals as goal

pub returns-then-word-plan : goal.returns-then-word-plan
returns-then-word-plan g c =
    c.minus_one.ensures ∙ rw (← c.wide_word-word.ensures) (ap (g.T.Output.held_one c.args.encoding) (value-below c.args.plan _ c.if-word-plan.true))

pub returns-else-word-plan : goal.returns-else-word-plan
returns-else-word-plan g c =
    c.natural.ensures ∙ ap g.T.Output.natural (natural_small _ (omega (arith, bit-most (ltb c.wide_word-word.result c.args.plan.second_end)))) ∙ sym (g.met.T.Output.natural_held c.args.encoding _)
    ∙ rw (← c.wide_word-word.ensures) (ap (g.T.Output.held_one c.args.encoding) (value-above c.args.plan _ c.if-word-plan.false))
