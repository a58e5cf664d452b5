-- `answer::write_skipped` writes two numbers, each a residue, or nothing.
use native.Mathlib.Omega.{arith}
use borrow.Author.Rules.{rules}
use Rattle.little_endian.specs.Patterns.{value_of}
use Rattle.sheet.proofs.Placing.{written_none}
use Rattle.sheet.proofs.answer.write_skipped.Statement.{statement}
use Rattle.sheet.proofs.answer.write_skipped.Tie as tie

returns : tie.Need-returns-then-wanted
unfolding value_of
returns c =
    let test = c.before.before.before.before.before in
    rw test.if-wanted.true c.before.before.write_line.ensures.0

returns-2 : tie.Need-returns
returns-2 c =
    let start = c.before.before in
    rw c.if-wanted.false (written_none start.args.text.now start.args.at (omega (arith, start.requires)))

pub write_skipped_spec : {M : Type 1} → statement M
write_skipped_spec = tie.close (tie.spec (λ c. search rules) (λ c κs. search rules) (λ c. search rules) returns returns-2)
