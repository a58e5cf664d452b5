-- A word is what its four bytes make.
use Rattle.std.proofs.Common.{arith}
use Rattle.little_endian.specs.LittleEndian.{u32_at}
use Rattle.little_endian.proofs.words.read_u32.Goals as goal

pub returns : goal.returns
unfolding u32_at
returns c = omega (arith, c.from_le_bytes.ensures)
