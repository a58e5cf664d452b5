-- The bytes of the first and the last bit, shifted down to the first.
use Rattle.std.proofs.Common.{arith}
use Rattle.poly_cbd.proofs.Bits.{small, holds-bits}
use Rattle.poly_cbd.proofs.coefficient.bits_at.Goals as goal

pub returns : goal.returns
returns c =
    holds-bits c.args.eta c.args.bytes.now c.args.i (omega (arith, small _ c.requires.0.0)) (λ k. (c.type_inv.bytes k).fits)
