-- The elements written so far are the value, the others as they were.
use Rattle.std.proofs.Common.{◌≡◌, length, replicate}
use Rattle.distr.proofs.Writing.{written}
use Rattle.output.proofs.fill.Given as goal

abbrev pub invariant-loop-element : goal.invariant-loop-element
invariant-loop-element g l = l.output ≡ written (replicate (length l.fn.output) l.value) l.element-index l.fn.output
