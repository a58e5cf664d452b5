-- From the place on the search comes to what it comes to from the start.
use Rattle.std.proofs.Common.{◌≡◌, ◌-◌, length, drop}
use Rattle.cdt.specs.Guided.{climbed}
use Rattle.cdt.proofs.index.index_from.Given as goal

abbrev pub invariant-loop-end : goal.invariant-loop-end
invariant-loop-end l = climbed (drop l.at l.ends) l.word l.at ≡ climbed (drop l.start l.ends) l.word l.start

abbrev pub decreases-loop-end : goal.decreases-loop-end
decreases-loop-end l = length l.ends - l.at
