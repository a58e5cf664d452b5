-- `fields::bad_fields` is the test of the definition.
use mathlib.Core.Path.{refl}
use borrow.Author.Rules.{rules}
use Rattle.sheet_request.specs.Request as request
use Rattle.sheet.specs.Sheet.{bad_fields}
use Rattle.sheet.proofs.fields.bad_fields.Statement.{statement}
use Rattle.sheet.proofs.fields.bad_fields.Tie as tie

returns : tie.Need-returns
unfolding bad_fields request.known_kind
returns c = refl

pub bad_fields_spec : {M : Type 1} → statement M
bad_fields_spec = tie.close (tie.spec (λ c. search rules) (λ c. search rules) (λ c. search rules) (λ c. search rules) returns)
