-- The digits of the number before the last digit are written by a call of the function itself, and the last digit after them.
use Rattle.std.proofs.Common.{◌≡◌, ℕ, ◌+◌, ◌*◌, ◌/◌, ◌^◌, ◌<◌, ◌≤◌, [], ◌∷◌, ◌++◌, length, refl, ap, arith}
use Rattle.decimal.specs.Decimal.{decimal}
use Rattle.decimal.proofs.Digits.{decimal_more, more_length}
use Rattle.decimal.proofs.Front.{front_more}
use Rattle.decimal.proofs.Halves.{one-digit}
use Rattle.decimal.proofs.+write_digits.Goals as goal

-- there is room for a digit more after those of a tenth
room : (n q r : ℕ) → 10 ≤ n → q ≡ n / 10 → length (decimal n) ≤ r → length (decimal q) < r
room n q r h e k = omega (arith, more_length n h, ap (λ m. length (decimal m)) e)

pub bounds-text-0 : goal.bounds-text-0
bounds-text-0 t c = omega (arith, ap length (one-digit c.args.high c.args.low c.if-high-eq0.true c.if-low-lt10.true), c.requires)

pub returns-then-low-lt10 : goal.returns-then-low-lt10
returns-then-low-lt10 t c =
    let a = c.args in
    rw (one-digit a.high a.low c.if-high-eq0.true c.if-low-lt10.true) (front_more [] a.text.now (48 + a.low) (bounds-text-0 t c) refl)

pub write_digits-end-requires : goal.write_digits-end-requires
write_digits-end-requires t c =
    let many : 10 ≤ c.args.high * 2 ^ 64 + c.args.low = grind (arith, c.else-high-eq0.either) in
    let fits = room _ _ _ many c.tenth-before.ensures.low_value c.requires in
    (omega (arith, c.decreases, c.tenth-before.ensures.low_value), omega (arith, fits))

pub bounds-text-end : goal.bounds-text-end
bounds-text-end t c =
    let many : 10 ≤ c.args.high * 2 ^ 64 + c.args.low = grind (arith, c.else-high-eq0.either) in
    let fits = room _ _ _ many c.tenth-before.ensures.low_value c.requires in
    omega (arith, ap (λ p. p.0) c.write_digits-end.ensures, c.write_digits-end.auto.text, fits)

pub returns : goal.returns
returns t c =
    let many : 10 ≤ c.args.high * 2 ^ 64 + c.args.low = grind (arith, c.else-high-eq0.either) in
    let q = c.tenth-before.result in
    let fits = room _ _ _ many c.tenth-before.ensures.low_value c.requires in
    let parts : decimal (c.args.high * 2 ^ 64 + c.args.low) ≡ decimal (q.high * 2 ^ 64 + q.low) ++ ((48 + q.digit) ∷ []) =
    rw (c.tenth-before.ensures.low_value, c.tenth-before.ensures.digit_value) (decimal_more _ many) in
    rw parts (front_more (decimal (q.high * 2 ^ 64 + q.low)) c.args.text.now (48 + q.digit) fits c.write_digits-end.ensures)
