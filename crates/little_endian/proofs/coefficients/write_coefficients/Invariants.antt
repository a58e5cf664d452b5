-- After i turns the bytes of the first i coefficients stand there.
use Rattle.std.proofs.Common.{◌≡◌, ◌*◌}
use Rattle.distr.proofs.Writing.{written}
use Rattle.little_endian.specs.LittleEndian.{bytes_of}
use Rattle.little_endian.proofs.coefficients.write_coefficients.Given as goal

abbrev pub invariant-loop-i : goal.invariant-loop-i
invariant-loop-i l = l.bytes ≡ written (bytes_of l.coefficients) (8 * l.i) l.initial.bytes
