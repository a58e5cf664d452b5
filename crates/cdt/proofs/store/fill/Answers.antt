use Rattle.std.proofs.Common.{refl, arith}
use Rattle.numbers.proofs.WideStores.{stored_more, stored-all}
use Rattle.cdt.proofs.Climbing.{sampled_held}
use Rattle.cdt.proofs.store.fill.Goals as goal

pub loop-i-preserved : goal.loop-i-preserved
loop-i-preserved g c =
    stored_more _ _ _ _ c.loop-i.invariant (omega arith) refl c.wide_word-word.ensures
    (sampled_held c.args.bounds.now c.args.top c.requires.0 _ c.make_guide-guide.ensures _ c.wide_word-word.type_inv c.sample_magnitude-sampled.ensures
    (g.T.Output.held_one c.args.encoding) (g.T.Output.held_sign c.args.encoding) (g.met.T.Output.sign_held c.args.encoding) (omega arith) c.coefficient.ensures)

pub returns : goal.returns
returns g c = stored-all _ _ _ _ c.loop-i.invariant c.loop-i-test.false c.requires.1
