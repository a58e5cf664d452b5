-- There is room for 39 digits, and no number of 128 bits has more.
use Rattle.std.proofs.Common.{arith}
use Rattle.decimal.proofs.Halves.{digits_fit}
use Rattle.decimal.proofs.write_halves.Goals as goal

pub write_digits-requires : goal.write_digits-requires
write_digits-requires c = omega (arith, digits_fit c.ranges.high.fits c.ranges.low.fits)
