-- `fields::is_malformed` is the test of the definition: the size first, and then the fields.
use borrow.Author.Rules.{rules}
use borrow.Author.Tests.{ltb-false}
use lib.Dec.{ltb}
use lib.ListN.{length}
use Rattle.distr.specs.Constants.{sheet_bytes}
use Rattle.distr.proofs.Reading.{or_false}
use Rattle.sheet.specs.Sheet.{malformed}
use Rattle.sheet.proofs.fields.is_malformed.Statement.{statement}
use Rattle.sheet.proofs.fields.is_malformed.Tie as tie

returns : tie.Need-returns-then-size
unfolding malformed
returns c = rw c.if-size.true

read-fields-requires : tie.Need-read_fields-requires
read-fields-requires c κs =
    let size = length c.before.before.args.sheet.now in
    ltb-false size 32 (or_false (ltb size 32) (ltb sheet_bytes size) c.if-size.false).0

returns-2 : tie.Need-returns
unfolding malformed
returns-2 c = rw (c.before.before.if-size.false, ← c.before.read_fields.ensures) c.bad_fields.ensures

pub is_malformed_spec : {M : Type 1} → statement M
is_malformed_spec = tie.close (tie.spec returns read-fields-requires (λ c κs. search rules) returns-2)
