-- `reply::draw` is the draw that the fields ask for, and hands out the bits of what it wrote.
use mathlib.Core.Path.{◌≡◌, sym, ap, ◌∙◌}
use native.Mathlib.Omega.{arith}
use borrow.Author.Rules.{rules}
use lib.ListN.{length, take, length-replicate}
use lib.IntN.{pos}
use Rattle.distr.proofs.Writing.{take-replicate}
use Rattle.sheet.proofs.Answers.{prefix_length, skipped-drawn}
use Rattle.sheet.proofs.Residues.{drawn_fields}
use Rattle.sheet.proofs.reply.draw.Statement.{statement}
use Rattle.sheet.proofs.reply.draw.Tie as tie

-- the output has n elements
sized : (c : tie.After-coefficients_room-room) → let n = c.args.f.n in
    n ≡ length (take n c.coefficients_room-room.result)
sized c =
    prefix_length c.args.f.n c.coefficients_room-room.result
    (omega (arith, c.requires.0, ap length c.coefficients_room-room.ensures, length-replicate 4096 (pos 0)))

copy-patterns-requires : tie.Need-copy_patterns-requires
copy-patterns-requires c κs =
    omega (arith, c.requires.2, c.output-1.given, sized c.before.before.before.before.before)

returns : tie.Need-returns
returns c =
    let f = c.args.f in
    let ws = c.args.words.now in
    let zeros = ap (take f.n) c.coefficients_room-room.ensures ∙ take-replicate f.n 4096 (pos 0) c.requires.0 in
    let same = drawn_fields f ws c.requires.1 c.draw_question-drawn.result c.copy_patterns.ensures c.draw_question-drawn.ensures.0 zeros in
    (same, skipped-drawn f ws c.draw_question-drawn.result _ same (sym (sized c.before.before.before.before.before.before.before.before.before)) c.draw_question-drawn.ensures.1)

pub draw_spec : {M : Type 1} → statement M
draw_spec =
    tie.close
    (tie.spec (λ c. search rules) (λ c κs. search rules) (λ c. search rules) (λ c. sized c.before) (λ c κs. search rules) copy-patterns-requires
    (λ c. search rules) returns)
