use Rattle.std.proofs.Common.{refl}
use Rattle.numbers.proofs.WideStores.{stored_more, stored-all}
use Rattle.ternary.proofs.ends.fill_rest.Goals as goal

pub loop-i-preserved : goal.loop-i-preserved
loop-i-preserved g c = stored_more _ _ _ _ c.loop-i.invariant c.loop-i-test.true refl refl c.element.ensures

pub returns : goal.returns
returns g c = stored-all _ _ _ _ c.loop-i.invariant c.loop-i-test.false c.requires
