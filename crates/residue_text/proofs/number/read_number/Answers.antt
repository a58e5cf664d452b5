-- A byte that is no digit ends the reading, as does a value that is too large; each digit makes the value of one byte more.
use Rattle.std.proofs.Common.{◌≡◌, ℕ, ◌+◌, ◌-◌, ◌*◌, ◌<◌, List, length, get_or, true, sym, ◌∙◌, arith}
use Rattle.residue_text.specs.Numbers.{is_digit}
use Rattle.residue_text.proofs.Digits.{digit-bounds, judged_more, judged-bad, judged_large, judged-all, Judged}
use Rattle.residue_text.proofs.number.read_number.Goals as goal

-- a digit more
more : (token : List ℕ) (i v d : ℕ) → i < length token → is_digit (get_or token i 0) ≡ true → d ≡ get_or token i 0 - 48 → Judged token i v
    → Judged token (i + 1) (v * 10 + d)
more token i v d h e is j = rw is (judged_more token i v h e j)

pub returns-then-not-is_ascii_digit : goal.returns-then-not-is_ascii_digit
returns-then-not-is_ascii_digit c =
    let other = sym c.is_ascii_digit.ensures.value ∙ c.if-not-is_ascii_digit.true in
    sym (judged-bad c.args.token.now c.args.most c.loop-byte.byte-index c.loop-byte.value c.loop-byte-test.true other c.loop-byte.invariant)

pub returns-then-digit-value : goal.returns-then-digit-value
returns-then-digit-value c =
    let digit = sym c.is_ascii_digit.ensures.value ∙ c.if-not-is_ascii_digit.false in
    let bounds = digit-bounds (get_or c.args.token.now c.loop-byte.byte-index 0) digit in
    let turned = more c.args.token.now c.loop-byte.byte-index c.loop-byte.value _ c.loop-byte-test.true digit c.from-digit.ensures c.loop-byte.invariant in
    sym (judged_large c.args.token.now c.args.most _ _ (omega (arith, c.ranges.most, c.from-digit.ensures, bounds)) turned)

pub loop-byte-preserved : goal.loop-byte-preserved
loop-byte-preserved c =
    let digit = sym c.is_ascii_digit.ensures.value ∙ c.if-not-is_ascii_digit.false in
    more c.args.token.now c.loop-byte.byte-index c.loop-byte.value _ c.loop-byte-test.true digit c.from-digit.ensures c.loop-byte.invariant

pub returns-then-most-value : goal.returns-then-most-value
returns-then-most-value c = sym (judged_large c.args.token.now c.args.most _ c.loop-byte.value c.if-most-value.true c.loop-byte.invariant)

pub returns : goal.returns
returns c = sym (judged-all c.args.token.now c.args.most c.loop-byte.byte-index c.loop-byte.value c.loop-byte-test.false c.if-most-value.false c.loop-byte.invariant)
