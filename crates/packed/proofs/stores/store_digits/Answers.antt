use Rattle.std.proofs.Common.{refl, arith}
use Rattle.packed.proofs.Storing.{pairwise_more}
use Rattle.packed.proofs.stores.store_digits.Goals as goal

pub loop-turn-preserved : goal.loop-turn-preserved
loop-turn-preserved g c = pairwise_more _ _ _ _ _ _ _ refl (omega arith) c.loop-turn.invariant c.store_pair.ensures
