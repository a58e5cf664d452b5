-- `draw` answers what the library answers over zeros, and writes its coefficients where the draw writes any.
use Rattle.std.proofs.Common.{◌≡◌, ◌/◌, ◌*◌, length, take, replicate, pos, refl, ap, ◌∙◌, arith, eq-eqb}
use lib.ListN.{length-replicate}
use lib.Seq.{length-take-le}
use Rattle.distr.proofs.Writing.{take-replicate}
use Rattle.desk.proofs.Requests.{answered}
use Rattle.desk.proofs.draw.Goals as goal

pub returns-then-number : goal.returns-then-number
returns-then-number c =
    let a = c.args in
    let n = length a.output.now / 8 in
    let room = c.coefficients_room-room in
    let whole : length room.result ≡ 4096 = ap length room.ensures ∙ length-replicate 4096 (pos 0) in
    let sized : n ≡ length (take n room.result) = omega (arith, length-take-le n room.result (omega (arith, c.requires.0, whole))) in
    let zeros : take n room.result ≡ replicate n (pos 0) = ap (take n) room.ensures ∙ take-replicate n 4096 (pos 0) c.requires.0 in
    let many : length a.output.now ≡ 8 * length c.draw_question-answer.new.output =
    omega (arith, c.requires.1, sized, c.draw_question-answer.auto.output) in
    answered a.kind a.a a.b a.modulus a.words.now a.place a.output.now
    (rw zeros at c.draw_question-answer.ensures.output_after) (rw (← sized) at c.draw_question-answer.ensures.result_value)
    (rw (rw c.number.ensures at c.if-number.true) (c.write_coefficients.ensures ∙ rw (eq-eqb _ _ many)))

pub returns-else-number : goal.returns-else-number
returns-else-number c =
    let a = c.args in
    let n = length a.output.now / 8 in
    let room = c.coefficients_room-room in
    let whole : length room.result ≡ 4096 = ap length room.ensures ∙ length-replicate 4096 (pos 0) in
    let sized : n ≡ length (take n room.result) = omega (arith, length-take-le n room.result (omega (arith, c.requires.0, whole))) in
    let zeros : take n room.result ≡ replicate n (pos 0) = ap (take n) room.ensures ∙ take-replicate n 4096 (pos 0) c.requires.0 in
    answered a.kind a.a a.b a.modulus a.words.now a.place a.output.now
    (rw zeros at c.draw_question-answer.ensures.output_after) (rw (← sized) at c.draw_question-answer.ensures.result_value)
    (rw (rw c.number.ensures at c.if-number.false) refl)
