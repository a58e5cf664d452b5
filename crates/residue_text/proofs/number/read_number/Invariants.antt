-- The bytes so far are digits, and the value is theirs.
use Rattle.residue_text.proofs.Digits.{Judged}
use Rattle.residue_text.proofs.number.read_number.Given as goal

abbrev pub invariant-loop-byte : goal.invariant-loop-byte
invariant-loop-byte l = Judged l.token l.byte-index l.value
