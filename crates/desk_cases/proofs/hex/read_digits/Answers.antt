-- A turn writes the byte of two digits more; after the last every byte stands there.
use Rattle.std.proofs.Common.{le_antisymm, add-one, arith}
use Rattle.distr.proofs.Writing.{written_more, written_all}
use Rattle.desk_cases.specs.Hexadecimal.{bytes_in}
use Rattle.desk_cases.proofs.Hexadecimal.{bytes-length, byte_at}
use Rattle.desk_cases.proofs.hex.read_digits.Goals as goal

pub loop-i-preserved : goal.loop-i-preserved
loop-i-preserved c =
    let a = c.args in
    let i = c.loop-i.i in
    let count = bytes-length _ a.text.now c.requires in
    rw (c.loop-i.invariant, c.value_of.ensures.value, c.value_of-in-loop-i.ensures.value, ← byte_at i a.text.now (omega arith), add-one i)
    (written_more (bytes_in a.text.now) a.values.now i 0 (omega arith) (omega arith))

pub returns : goal.returns
returns c =
    let a = c.args in
    rw (c.loop-i.invariant, le_antisymm c.loop-i.auto.i-end c.loop-i-test.false)
    (written_all (bytes_in a.text.now) a.values.now (bytes-length _ a.text.now c.requires))
