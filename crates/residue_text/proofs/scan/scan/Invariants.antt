-- None of the bytes before `i` is of the kind.
use Rattle.std.proofs.Common.{◌≡◌, ◌+◌, drop}
use Rattle.residue_text.specs.Tokens.{sought, before}
use Rattle.residue_text.proofs.scan.scan.Given as goal

abbrev pub invariant-loop-i : goal.invariant-loop-i
invariant-loop-i l = l.at + before (sought l.what) (drop l.at l.text) ≡ l.i + before (sought l.what) (drop l.i l.text)
