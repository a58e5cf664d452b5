-- None of the first i heights is wrong.
use Rattle.std.proofs.Common.{length}
use Rattle.distr.specs.Constants.{literal}
use Rattle.distr.specs.FirstWrong.{heights_asked, right}
use Rattle.layer_tables.proofs.Searching.{Searched}
use Rattle.layer_tables.proofs.first_wrong.first_wrong_height.Given as goal

abbrev pub invariant-loop-i : goal.invariant-loop-i
invariant-loop-i l = Searched (right heights_asked (literal 0 1) l.heights) (length l.heights) l.i
