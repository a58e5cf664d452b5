-- `text::write_byte` writes the byte or nothing.
use native.Mathlib.Omega.{arith}
use borrow.Author.Rules.{rules}
use Rattle.sheet.proofs.Placing.{written_none, written_byte}
use Rattle.sheet.proofs.text.write_byte.Statement.{statement}
use Rattle.sheet.proofs.text.write_byte.Tie as tie

slice-write-text : tie.Need-bounds-text-at
slice-write-text c = omega (arith, rw c.if-wanted.true at c.before.requires)

returns : tie.Need-returns-then-wanted
returns c =
    let a = c.before.args in
    rw c.if-wanted.true (written_byte a.text.now a.at a.byte (slice-write-text c))

returns-2 : tie.Need-returns
returns-2 c =
    let a = c.before.args in
    rw c.if-wanted.false (written_none a.text.now a.at (omega (arith, rw c.if-wanted.false at c.before.requires)))

pub write_byte_spec : {M : Type 1} → statement M
write_byte_spec = tie.close (tie.spec slice-write-text (λ c. search rules) (λ c. search rules) returns returns-2)
