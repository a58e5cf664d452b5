use Rattle.std.proofs.Common.{refl}
use lib.Ieee.{nan}
use lib.Ieee.Scale.{finite}
use Rattle.distr.specs.Layered.{all_finite}
use Rattle.layer_tables.proofs.Judging.{each_more, each_all}
use Rattle.layer_tables.proofs.all_finite.Goals as goal

pub loop-x-preserved : goal.loop-x-preserved
unfolding all_finite
loop-x-preserved c =
    rw c.is_finite-ok.ensures
    (each_more all_finite refl finite (λ x xs. refl) c.loop-x.ok c.loop-x.x-index c.args.xs.now nan c.loop-x-test.true c.loop-x.invariant)

pub returns : goal.returns
unfolding all_finite
returns c = each_all all_finite refl c.loop-x.ok c.loop-x.x-index c.args.xs.now c.loop-x-test.false c.loop-x.invariant
