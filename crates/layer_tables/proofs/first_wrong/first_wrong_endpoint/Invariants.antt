-- None of the first i endpoints is wrong.
use Rattle.std.proofs.Common.{length}
use Rattle.distr.specs.FirstWrong.{endpoints_asked, right}
use Rattle.layer_tables.proofs.Searching.{Searched}
use Rattle.layer_tables.proofs.first_wrong.first_wrong_endpoint.Given as goal

abbrev pub invariant-loop-i : goal.invariant-loop-i
invariant-loop-i l = Searched (right (endpoints_asked l.maximum_magnitude) 0 l.endpoints) (length l.endpoints) l.i
