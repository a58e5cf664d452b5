-- A byte that is no digit decides, and one that is leaves it to the rest; at the end nothing is left.
use Rattle.std.proofs.Common.{sym, ◌∙◌, drop_of_length-le}
use Rattle.desk_cases.specs.Hexadecimal.{all_digits}
use Rattle.desk_cases.proofs.Hexadecimal.{digits_more, digits-bad}
use Rattle.desk_cases.proofs.hex.all_digits.Goals as goal

pub returns-then-not-is_digit : goal.returns-then-not-is_digit
returns-then-not-is_digit c =
    sym (c.loop-byte.invariant
    ∙ digits-bad _ c.loop-byte.byte-index c.loop-byte-test.true (sym c.is_digit.ensures ∙ c.if-not-is_digit.true))

pub loop-byte-preserved : goal.loop-byte-preserved
loop-byte-preserved c =
    c.loop-byte.invariant
    ∙ digits_more _ c.loop-byte.byte-index c.loop-byte-test.true (sym c.is_digit.ensures ∙ c.if-not-is_digit.false)

pub returns : goal.returns
unfolding all_digits
returns c = sym (rw (drop_of_length-le c.args.text.now c.loop-byte-test.false) at c.loop-byte.invariant)
