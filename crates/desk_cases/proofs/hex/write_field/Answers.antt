-- `hex::write_field` writes `-` for no bytes, else their digits over the front of the text.
use Rattle.std.proofs.Common.{arith}
use Rattle.desk_cases.proofs.Fields.{no_bytes, some_bytes}
use Rattle.desk_cases.proofs.hex.write_field.Goals as goal

pub returns-then-n-eq0-clause-text_after : goal.returns-then-n-eq0-clause-text_after
returns-then-n-eq0-clause-text_after c = (no_bytes c.args.values.now c.args.text.now c.if-n-eq0.true (omega arith)).0

pub returns-clause-text_after : goal.returns-clause-text_after
returns-clause-text_after c = (some_bytes _ _ _ c.if-n-eq0.false c.write_digits.ensures).0
