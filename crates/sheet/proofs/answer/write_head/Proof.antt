-- `answer::write_head` writes three numbers, each a residue.
use borrow.Author.Rules.{rules}
use Rattle.little_endian.specs.Patterns.{value_of}
use Rattle.sheet.proofs.answer.write_head.Statement.{statement}
use Rattle.sheet.proofs.answer.write_head.Tie as tie

returns : tie.Need-returns
unfolding value_of
returns c = c.before.before.write_line.ensures

pub write_head_spec : {M : Type 1} → statement M
write_head_spec = tie.close (tie.spec (λ c. search rules) (λ c κs. search rules) (λ c. search rules) returns)
