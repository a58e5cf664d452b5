use Rattle.std.proofs.Common.{◌≡◌, ◌+◌, ◌/◌, length, arith}
use Rattle.packed.proofs.Packing.{word-there, room_more, room_less, filled_more, filled_all, filled_last}
use Rattle.packed.proofs.stores.fill_digits.Goals as goal

pub loop-next-preserved : goal.loop-next-preserved
loop-next-preserved g c =
    let state = c.loop-next.invariant in
    let room = room_more _ _ _ _ _ _ _ state c.loop-next-test.true in
    let there = word-there _ _ _ _ _ _ _ c.requires.1 (omega (arith, state.cut.some)) state in
    filled_more _ _ _ _ _ _ _ room there state c.store_digits.ensures

pub returns-then-at-n : goal.returns-then-at-n
returns-then-at-n g c =
    let state = c.loop-next.invariant in
    let room = room_less _ _ _ _ _ _ _ state c.loop-next-test.false in
    let there = word-there _ _ _ _ _ _ _ c.requires.1 c.if-at-n.true state in
    let end : c.loop-next.next ≡ c.args.place + length c.args.output.now / c.args.«each» = omega arith in
    filled_last _ _ _ _ _ _ _ _ c.if-at-n.true room there state (rw (← end) at c.store_digits-then-at-n.ensures) c.store_front.ensures

pub returns-else-at-n : goal.returns-else-at-n
returns-else-at-n g c = filled_all _ _ _ _ _ _ _ c.if-at-n.false c.loop-next.invariant
