-- `text::size_of` gives the magnitude of what bits stand for.
use native.Mathlib.Omega.{arith}
use borrow.Author.Rules.{rules}
use Rattle.little_endian.specs.Patterns.{value_of}
use Rattle.sheet.proofs.Patterns.{minus_above}
use Rattle.sheet.proofs.text.size_of.Statement.{statement}
use Rattle.sheet.proofs.text.size_of.Tie as tie

add-result : tie.Need-overflow_add-result
add-result c = omega (arith, minus_above c.before.args.signed c.before.args.bits c.if-signed-bits.true)

returns : tie.Need-returns-then-signed-bits
unfolding value_of
returns c = rw c.if-signed-bits.true (omega arith)

returns-2 : tie.Need-returns
unfolding value_of
returns-2 c = rw c.if-signed-bits.false

pub size_of_spec : {M : Type 1} → statement M
size_of_spec = tie.close (tie.spec (λ c. search rules) add-result returns returns-2)
