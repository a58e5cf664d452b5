-- Each line begins within the text.
use Rattle.std.proofs.Common.{◌≤◌, length}
use Rattle.layer_check.proofs.reading.read_text.Given as goal

abbrev pub invariant-loop-line : goal.invariant-loop-line
invariant-loop-line l = l.at ≤ length l.text
