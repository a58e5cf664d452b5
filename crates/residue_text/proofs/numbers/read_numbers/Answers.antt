-- Spaces are passed, and each token that is a number is one more in the room.
use Rattle.std.proofs.Common.{arith}
use Rattle.residue_text.specs.Tokens.{is_space}
use Rattle.residue_text.proofs.Scanning.{before_later}
use Rattle.residue_text.proofs.Filling.{space_passed, held_first, held_skip, held_full, held-bad, held_more, held_out}
use Rattle.residue_text.proofs.numbers.read_numbers.Goals as goal

pub loop-at-init : goal.loop-at-init
loop-at-init c =
    let a = c.args in
    let found = c.scan-at.ensures.value in (
      omega arith,
      space_passed a.text.now 0 c.scan-at.result found,
      held_skip a.most a.text.now a.numbers.now 0 0 c.scan-at.result a.numbers.now found (held_first a.most a.text.now a.numbers.now),
    )

pub returns-in_default : goal.returns-in_default
returns-in_default c =
    let a = c.args in
    let l = c.loop-at in
    let none = c.in_default.is in
    let t = held-bad a.most a.text.now a.numbers.now l.count l.at _ l.numbers _ c.loop-at-test.true (l.invariant.1 c.loop-at-test.true) c.scan-end.ensures.value
    c.read_number.ensures l.invariant.2 none in
    record { value = t.0; numbers_after = t.1.0; count_in_bounds = t.1.1 }

pub returns-then-count-room : goal.returns-then-count-room
returns-then-count-room c =
    let a = c.args in
    let l = c.loop-at in
    let t = held_full a.most a.text.now a.numbers.now l.count l.at _ l.numbers _ c.loop-at-test.true (l.invariant.1 c.loop-at-test.true) c.scan-end.ensures.value
    c.read_number.ensures l.invariant.2 c.if-count-room.true in
    record { value = t.0; numbers_after = t.1.0; count_in_bounds = t.1.1 }

pub loop-at-smaller : goal.loop-at-smaller
loop-at-smaller c =
    let h = c.loop-at-test.true in
    omega (arith, c.scan-end.ensures.value, c.scan-at-in-loop-at.ensures.value, before_later is_space c.args.text.now c.loop-at.at h (c.loop-at.invariant.1 h), c.scan-at-in-loop-at.ensures.upper_bound)

pub loop-at-preserved : goal.loop-at-preserved
loop-at-preserved c =
    let a = c.args in
    let l = c.loop-at in
    let found = c.scan-at-in-loop-at.ensures.value in
    let end = c.scan-end.result in (
      omega (arith, c.scan-at-in-loop-at.ensures.upper_bound),
      space_passed a.text.now end c.scan-at-in-loop-at.result found,
      held_skip a.most a.text.now a.numbers.now _ end _ _ found
          (held_more a.most a.text.now a.numbers.now l.count l.at _ l.numbers _ c.loop-at-test.true (l.invariant.1 c.loop-at-test.true)
          c.scan-end.ensures.value c.read_number.ensures l.invariant.2 (omega (arith, c.if-count-room.false, l.invariant.2.fits)) _ c.in-Some.is),
    )

pub returns : goal.returns
returns c =
    let t = held_out c.args.most c.args.text.now c.args.numbers.now c.loop-at.count c.loop-at.at c.loop-at.numbers c.loop-at-test.false c.loop-at.invariant.2 in
    record { value = t.0; numbers_after = t.1.0; count_in_bounds = t.1.1 }
