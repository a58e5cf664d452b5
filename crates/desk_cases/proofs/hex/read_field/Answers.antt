-- `hex::read_field` judges a field by its length and its digits, and reads the bytes into the front of the room.
use Rattle.std.proofs.Common.{sym, ◌∙◌}
use Rattle.desk_cases.proofs.Fields.{read_one, read_unfit, read_other, read_all}
use Rattle.desk_cases.proofs.hex.read_field.Goals as goal

pub returns-then-size-eq1 : goal.returns-then-size-eq1
returns-then-size-eq1 c = read_one c.args.text.now c.args.room.now c.if-size-eq1.true

pub returns-then-count-odd : goal.returns-then-count-odd
returns-then-count-odd c = read_unfit c.args.text.now c.args.room.now c.if-size-eq1.false c.if-count-odd.true

pub returns-then-not-all_digits : goal.returns-then-not-all_digits
returns-then-not-all_digits c =
    read_other c.args.text.now c.args.room.now c.if-size-eq1.false c.if-count-odd.false
    (sym c.all_digits.ensures ∙ c.if-not-all_digits.true)

pub returns : goal.returns
returns c =
    read_all c.args.text.now c.args.room.now c.if-size-eq1.false c.if-count-odd.false _ _
    (sym c.all_digits.ensures ∙ c.if-not-all_digits.false) c.read_digits.ensures
