-- `ok` and the test of what is left, from the element before on, stand for the test of the whole.
use Rattle.distr.specs.Layered.{falls}
use Rattle.layer_tables.proofs.Judging.{Paired}
use Rattle.layer_tables.proofs.falls.Given as goal

abbrev pub invariant-loop-i : goal.invariant-loop-i
invariant-loop-i l = Paired falls l.ok l.i l.xs
