-- `answer::write_refusal` writes the line of a number that is not 0.
use mathlib.Core.Path.{sym}
use native.Mathlib.Nat.{ne_of_lt}
use borrow.Author.Rules.{rules}
use borrow.Author.Tests.{ne_eqb}
use Rattle.sheet.specs.Text.{answer_text}
use Rattle.sheet.proofs.answer.write_refusal.Statement.{statement}
use Rattle.sheet.proofs.answer.write_refusal.Tie as tie

returns : tie.Need-returns
unfolding answer_text
returns c =
    let start = c.before.before.before.before.before in
    rw (ne_eqb start.args.number 0 (λ e. ne_of_lt start.requires.1 (sym e))) c.before.before.write_head.ensures.0

pub write_refusal_spec : {M : Type 1} → statement M
write_refusal_spec = tie.close (tie.spec (λ c κs. search rules) (λ c. search rules) returns)
