-- `hex::read_digits` fills the bytes front to back: after i turns the first i stand there.
use Rattle.std.proofs.Common.{◌≡◌}
use Rattle.distr.proofs.Writing.{written}
use Rattle.desk_cases.specs.Hexadecimal.{bytes_in}
use Rattle.desk_cases.proofs.hex.read_digits.Given as goal

abbrev pub invariant-loop-i : goal.invariant-loop-i
invariant-loop-i l = l.values ≡ written (bytes_in l.text) l.i l.initial.values
