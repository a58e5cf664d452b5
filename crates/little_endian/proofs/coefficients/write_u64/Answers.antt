-- The bytes of a number are its digits in base 256.
use Rattle.std.proofs.Common.{◌∙◌}
use Rattle.little_endian.proofs.Places.{eight_digits}
use Rattle.little_endian.proofs.coefficients.write_u64.Goals as goal

pub returns : goal.returns
returns c = c.copy_from_slice.ensures.after ∙ c.to_le_bytes.ensures ∙ eight_digits c.args.value
