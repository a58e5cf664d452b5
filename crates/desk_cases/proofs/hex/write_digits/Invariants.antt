-- `hex::write_digits` writes the digits front to back: after i turns those of the first i bytes stand there.
use Rattle.std.proofs.Common.{◌≡◌, ◌*◌}
use Rattle.distr.proofs.Writing.{written}
use Rattle.desk_cases.specs.Hexadecimal.{hex}
use Rattle.desk_cases.proofs.hex.write_digits.Given as goal

abbrev pub invariant-loop-i : goal.invariant-loop-i
invariant-loop-i l = l.text ≡ written (hex l.values) (2 * l.i) l.initial.text
