-- What is judged so far is the ends and the first i numbers.
use Rattle.std.proofs.Common.{◌≡◌}
use Rattle.gaussian_core.proofs.Tables.{judged_to}
use Rattle.gaussian_core.proofs.rising.rising_ok.Given as goal

abbrev pub invariant-loop-i : goal.invariant-loop-i
invariant-loop-i l = l.ok ≡ judged_to l.last l.bounds l.i
