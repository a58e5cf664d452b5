-- `text::write_line` writes a line: what is left of it grows shorter by a value from turn to turn, and there is room for it.
use mathlib.Core.Path.{ap}
use Prim.Native.Nat.{◌+◌, ◌≤◌, ◌-◌}
use native.Mathlib.Omega.{arith}
use lib.ListN.{length, length-set}
use Rattle.sheet.specs.Text.{line}
use Rattle.little_endian.specs.Patterns.{values_of}
use Rattle.sheet.proofs.Placing.{written_byte, written-length, Writing, writing_none, writing_room, writing_more, writing_done}
use Rattle.sheet.proofs.Lines.{rest, rest_more, rest_none, item_room, line-length}
use Rattle.sheet.proofs.text.write_line.Statement.{statement}
use Rattle.sheet.proofs.text.write_line.Tie as tie

abbrev invariant-loop-i : tie.invariant-loop-i
invariant-loop-i text₀ at values signed n end₀ i₀ text end i =
    Writing text₀ at (line (values_of signed values)) (rest (values_of signed values) i) text end

abbrev decreases-loop-i : tie.decreases-loop-i
decreases-loop-i text₀ at values signed n end₀ i₀ text end i = n - i

-- there is room for what is left
room : (c : tie.At-loop-i invariant-loop-i decreases-loop-i) → let a = c.before.before.before.args in
    c.loop-i.end + length (rest (values_of a.signed a.values.now) c.loop-i.i) ≤ length c.loop-i.text
room c =
    let start = c.before.before.before in
    let a = start.args in
    writing_room a.text.now a.at (line (values_of a.signed a.values.now)) c.loop-i.invariant
    (omega (arith, start.requires, line-length a.signed a.values.now (λ i. (c.before.shared_slice_known-1.given i).fits)))

write-item-requires : tie.Need-write_item-end-requires invariant-loop-i decreases-loop-i
write-item-requires c κs =
    let loop = c.before.before.before in
    let a = loop.before.before.before.args in
    item_room a.signed a.values.now loop.loop-i.i loop.loop-i.end _ c.before.before.loop-i-test.true (room loop)

loop-again : tie.Need-loop-i-preserved invariant-loop-i decreases-loop-i
loop-again c =
    let test = c.before.before.before.before.before in
    let a = test.before.before.before.before.args in
    writing_more _ _ _ test.before.loop-i.invariant (rest_more a.signed a.values.now test.before.loop-i.i test.loop-i-test.true)
    c.before.before.write_item-end.ensures

slice-write-text : tie.Need-bounds-text-end invariant-loop-i decreases-loop-i
slice-write-text c =
    let a = c.before.before.before.before.args in
    omega (arith, room c.before, ap length (rest_none a.signed a.values.now c.before.loop-i.i c.loop-i-test.false))

returns : tie.Need-returns invariant-loop-i decreases-loop-i
returns c =
    let start = c.before.before.before.before in
    let a = start.args in
    let inv = c.before.loop-i.invariant in
    let left = rest_none a.signed a.values.now c.before.loop-i.i c.loop-i-test.false in
    let whole = writing_done _ _ _ inv left (written_byte c.before.loop-i.text c.before.loop-i.end 10 (slice-write-text c)) in
    (whole, omega (arith, whole.place, line-length a.signed a.values.now (λ i. (c.before.before.shared_slice_known-1.given i).fits)))

pub write_line_spec : {M : Type 1} → statement M
write_line_spec =
    tie.close
    (tie.spec invariant-loop-i decreases-loop-i (λ c. writing_none _ _ _ (omega arith)) (λ c. omega arith) (λ c. c.before.before.loop-i-test.true)
    write-item-requires (λ c. omega arith) (λ c. omega arith) loop-again slice-write-text
    (λ c. omega (arith, slice-write-text c, written-length c.before.loop-i.invariant.done))
    (λ c. simp length-set (written-length c.before.loop-i.invariant.done)) returns)
