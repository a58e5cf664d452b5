-- `hex::all_digits` goes over the text: what is left of it decides.
use Rattle.std.proofs.Common.{◌≡◌, drop}
use Rattle.desk_cases.specs.Hexadecimal.{all_digits}
use Rattle.desk_cases.proofs.hex.all_digits.Given as goal

abbrev pub invariant-loop-byte : goal.invariant-loop-byte
invariant-loop-byte l = all_digits l.text ≡ all_digits (drop l.byte-index l.text)
