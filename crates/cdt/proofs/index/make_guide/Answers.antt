use Rattle.std.proofs.Common.{refl}
use Rattle.cdt.proofs.Climbing.{filling_none, filling_more}
use Rattle.cdt.proofs.index.make_guide.Goals as goal

pub loop-k-init : goal.loop-k-init
loop-k-init c = filling_none c.args.ends.now _ refl

pub loop-k-preserved : goal.loop-k-preserved
loop-k-preserved c = filling_more _ c.loop-k.guide c.loop-k.at c.loop-k.k c.loop-k.invariant c.loop-k-test.true c.index_from-at.ensures
