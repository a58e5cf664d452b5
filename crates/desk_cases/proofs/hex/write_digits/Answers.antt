-- A turn writes the two digits of a byte more; after the last every digit stands there.
use Rattle.std.proofs.Common.{le_antisymm, arith}
use Rattle.distr.proofs.Writing.{written_all}
use Rattle.desk_cases.specs.Hexadecimal.{hex}
use Rattle.desk_cases.proofs.Hexadecimal.{hex-length, pair_more}
use Rattle.desk_cases.proofs.hex.write_digits.Goals as goal

pub loop-i-preserved : goal.loop-i-preserved
loop-i-preserved c =
    rw (c.loop-i.invariant, c.digit_of.ensures, c.digit_of-in-loop-i.ensures)
    (pair_more c.args.values.now c.args.text.now c.loop-i.i c.requires (omega arith))

pub returns : goal.returns
returns c =
    let a = c.args in
    let count = hex-length a.values.now in
    rw (c.loop-i.invariant, le_antisymm c.loop-i.auto.i-end c.loop-i-test.false, ← c.requires)
    (written_all (hex a.values.now) a.text.now (omega arith))
