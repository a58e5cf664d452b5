-- `answer::write_success` writes two lines, one after the other.
use native.Mathlib.Omega.{arith}
use borrow.Author.Rules.{rules}
use Rattle.sheet.specs.Text.{answer_text}
use Rattle.sheet.proofs.Placing.{written_then, written-length}
use Rattle.sheet.proofs.answer.write_success.Statement.{statement}
use Rattle.sheet.proofs.answer.write_success.Tie as tie

write-line-requires : tie.Need-write_line-requires
write-line-requires c κs =
    let head = c.before.before.before in
    let start = head.before.before.before.before in
    omega (arith, head.write_head-at.ensures, written-length head.write_head-at.ensures.0, start.requires)

returns : tie.Need-returns
unfolding answer_text
returns c =
    let line = c.before.before in
    let head = line.before.before.before.before in
    (written_then head.write_head-at.ensures.0 line.write_line.ensures.0, omega (arith, head.write_head-at.ensures.1, line.write_line.ensures.1))

pub write_success_spec : {M : Type 1} → statement M
write_success_spec = tie.close (tie.spec (λ c κs. search rules) write-line-requires (λ c. search rules) returns)
