use Rattle.std.proofs.Common.{arith, ◌∙◌, sym, ap}
use Rattle.output.proofs.Naturals.{natural_small}
use Rattle.numbers.proofs.WideStores.{stored_none, stored_more, stored-all}
use Rattle.binary.proofs.Values.{one-signed, one_fits}
use Rattle.binary.proofs.store.fill_by.Goals as goal

pub loop-element-init : goal.loop-element-init
loop-element-init g c = (omega arith, stored_none _ _ _ _)

-- what is stored is the value of the word, held
pub loop-element-preserved : goal.loop-element-preserved
loop-element-preserved g c =
    let loop = c.loop-element in
    let held = c.natural.ensures ∙ ap g.T.Output.natural (rw c.one_below.ensures (natural_small _ (one_fits _ _)) ∙ c.one_below.ensures) ∙ sym (g.met.T.Output.natural_held c.args.encoding _)
    ∙ ap (g.T.Output.held_one c.args.encoding) (one-signed _ _) in
    (omega (arith, loop.invariant.0), stored_more _ _ _ _ loop.invariant.1 c.loop-element-test.true loop.invariant.0 c.wide_word-word.ensures held)

pub returns : goal.returns
returns g c = stored-all _ _ _ _ c.loop-element.invariant.1 c.loop-element-test.false c.requires
