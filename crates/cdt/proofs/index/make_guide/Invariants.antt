-- The entries so far are in, and the search for the next goes on from the last.
use Rattle.cdt.proofs.Climbing.{Filling}
use Rattle.cdt.proofs.index.make_guide.Given as goal

abbrev pub invariant-loop-k : goal.invariant-loop-k
invariant-loop-k l = Filling l.ends l.guide l.at l.k
