-- `ok` and the test of what is left stand for the test of the whole.
use Rattle.std.proofs.Common.{◌≡◌, ◌&&◌, drop}
use Rattle.distr.specs.Layered.{all_finite}
use Rattle.layer_tables.proofs.all_finite.Given as goal

abbrev pub invariant-loop-x : goal.invariant-loop-x
invariant-loop-x l = l.ok && all_finite (drop l.x-index l.xs) ≡ all_finite l.xs
