use Rattle.std.proofs.Common.{refl}
use lib.Ieee.{nan, of_bits, round}
use Rattle.distr.specs.Layered.{in_unit, all_in_unit}
use Rattle.layer_tables.proofs.Judging.{each_more, each_all}
use Rattle.layer_tables.proofs.all_in_unit.Goals as goal

pub loop-x-preserved : goal.loop-x-preserved
unfolding all_in_unit of_bits round
loop-x-preserved c =
    each_more all_in_unit refl in_unit (λ x xs. refl) c.loop-x.ok c.loop-x.x-index c.args.xs.now nan c.loop-x-test.true c.loop-x.invariant

pub returns : goal.returns
unfolding all_in_unit
returns c = each_all all_in_unit refl c.loop-x.ok c.loop-x.x-index c.args.xs.now c.loop-x-test.false c.loop-x.invariant
