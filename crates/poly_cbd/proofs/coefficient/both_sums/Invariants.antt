-- The first j bits of each sum are added.
use Rattle.std.proofs.Common.{◌≡◌}
use Rattle.poly_cbd.proofs.Bits.{sums_after}
use Rattle.poly_cbd.proofs.coefficient.both_sums.Given as goal

abbrev pub invariant-loop-j : goal.invariant-loop-j
invariant-loop-j l = l.sums ≡ sums_after l.eta l.bits l.j
