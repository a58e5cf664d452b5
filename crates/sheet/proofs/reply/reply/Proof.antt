-- `reply::reply` writes the text of the draw that the fields ask for, and the third line where it is wanted.
use mathlib.Core.Path.{◌≡◌, sym}
use native.Mathlib.Omega.{arith}
use borrow.Author.Rules.{rules}
use lib.ListN.{length, take}
use Rattle.sheet.proofs.Placing.{written_same, written-length}
use Rattle.sheet.proofs.Answers.{refused-text, success-written, prefix_length}
use Rattle.sheet.proofs.reply.reply.Statement.{statement}
use Rattle.sheet.proofs.reply.reply.Tie as tie

-- there are n values
sized : (c : tie.After-values_room-room) → let n = c.before.before.before.before.args.f.n in n ≡ length (take n c.values_room-room.result)
sized c =
    prefix_length c.args.f.n c.values_room-room.result (omega (arith, c.requires.1, c.values_room-room.ensures))

draw-requires : tie.Need-draw-drawn-requires
draw-requires c κs = (c.requires.1, c.requires.2, sym (sized c.before.before))

returns : tie.Need-returns-then-number-ne0
returns c =
    written_same (refused-text c.args.f c.args.words.now c.args.skipped c.draw-drawn.result _ c.draw-drawn.ensures.0 c.if-number-ne0.true)
    c.write_refusal.ensures

write-success-requires : tie.Need-write_success-end-requires
write-success-requires c κs = (c.requires.0, omega (arith, c.requires.1, c.values-1.given, sized c.before.before.before.before.before.before.before))

write-skipped-requires : tie.Need-write_skipped-requires
write-skipped-requires c κs =
    omega (arith, c.requires.0, c.requires.1, c.values-1.given, sized c.before.before.before.before.before.before.before.before.before.before.before.before, written-length c.write_success-end.ensures.0, c.write_success-end.ensures.1)

returns-2 : tie.Need-returns
returns-2 c =
    success-written c.args.f c.args.words.now c.args.skipped c.draw-drawn.result _ c.draw-drawn.ensures.0 c.if-number-ne0.false
    (omega (arith, c.values-1.given, sized c.before.before.before.before.before.before.before.before.before.before.before.before.before.before.before)) c.draw-drawn.ensures.1 c.write_success-end.ensures.0 c.write_skipped.ensures

pub reply_spec : {M : Type 1} → statement M
reply_spec =
    tie.close
    (tie.spec (λ c. search rules) (λ c κs. search rules) (λ c. search rules) (λ c. sized c.before) draw-requires (λ c κs. search rules)
    (λ c. search rules) returns write-success-requires write-skipped-requires (λ c. search rules) returns-2)
