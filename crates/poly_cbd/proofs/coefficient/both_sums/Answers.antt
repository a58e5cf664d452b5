use Rattle.std.proofs.Common.{◌+◌, arith}
use Rattle.poly_cbd.proofs.Bits.{no_turns, turn, sums-small}
use Rattle.poly_cbd.proofs.coefficient.both_sums.Goals as goal

pub loop-j-init : goal.loop-j-init
loop-j-init c = no_turns _ _

pub overflow_add-sums : goal.overflow_add-sums
overflow_add-sums c =
    let a = c.args in
    let l = c.loop-j in
    omega (arith, turn a.eta a.bits l.j l.sums c.loop-j-test.true c.requires l.invariant, sums-small a.eta a.bits (l.j + 1) (omega arith) c.requires)

pub loop-j-preserved : goal.loop-j-preserved
loop-j-preserved c = turn _ _ _ _ c.loop-j-test.true c.requires c.loop-j.invariant
