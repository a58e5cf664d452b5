use Rattle.std.proofs.Common.{refl}
use lib.Ieee.{lt, nan}
use Rattle.distr.specs.Layered.{falls}
use Rattle.layer_tables.proofs.Judging.{pair_more, pair_all}
use Rattle.layer_tables.proofs.falls.Goals as goal

pub loop-i-preserved : goal.loop-i-preserved
unfolding falls
loop-i-preserved c = pair_more falls refl (λ a b. lt b a) (λ x y xs. refl) c.loop-i.ok _ _ nan c.loop-i-test.true c.loop-i.invariant

pub returns : goal.returns
unfolding falls
returns c = pair_all falls refl (λ x. refl) _ _ _ c.loop-i-test.false c.loop-i.invariant
