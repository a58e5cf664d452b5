use Rattle.std.proofs.Common.{refl}
use Rattle.numbers.proofs.WideStores.{stored_more, stored-all}
use Rattle.centered_binomial.proofs.Counting.{counted}
use Rattle.centered_binomial.proofs.store.fill.Goals as goal

pub loop-i-preserved : goal.loop-i-preserved
loop-i-preserved g c =
    stored_more _ _ _ _ c.loop-i.invariant c.loop-i-test.true refl c.wide_word-word.ensures
    (counted _ c.requires.made (g.T.Output.held_one c.args.encoding) _ c.upper_mask-upper.ensures c.ones_of-ones.ensures.0 c.ones_of-ones.ensures.1
    c.difference.ensures)

pub returns : goal.returns
returns g c = stored-all _ _ _ _ c.loop-i.invariant c.loop-i-test.false c.requires.enough
