-- `text::write_number` writes a number in decimal: the number before the last digit, by a call of itself, and the last digit.
-- The measure is the number.
use Prim.Native.Nat.{ℕ, ◌+◌, ◌<◌}
use native.Mathlib.Omega.{arith}
use borrow.Fn.Kinds.{In}
use borrow.Fn.PlainCycle.{Measures, is, falls, and}
use lib.ListN.{length-set}
use Rattle.decimal.specs.Decimal.{last_digit}
use Rattle.decimal.proofs.Digits.{decimal-small, decimal_more, small-length, more_length}
use Rattle.sheet.proofs.Placing.{written_byte, written_then, written-length}
use Rattle.sheet.proofs.text.write_number.Reads as own
use Rattle.sheet.proofs.text.write_number.Kinds as kinds
use Rattle.sheet.proofs.text.+write_number.Lts-write_number as lts
use Rattle.sheet.proofs.text.+write_number.{statement}
use Rattle.sheet.proofs.text.+write_number.Tie.{close}

abbrev μ : Measures 1 kinds.ps ℕ
μ κs a = a.1.1.0

-- what the function is given at the measure t, and what a call of it asks below t
abbrev at-measure : ℕ → In 1 kinds.ps
at-measure t = and 1 kinds.ps (is 1 kinds.ps μ t) own.Pre

abbrev below : ℕ → In 1 kinds.ps
below t = and 1 kinds.ps (falls 1 kinds.ps ◌<◌ μ t) own.Pre

slice-write-text : (t : ℕ) → lts.Need-bounds-text-at (below t, own.Post) (at-measure t) own.Post
slice-write-text t c = omega (arith, small-length c.before.before.args.value c.if-value-lt10.true)

returns : (t : ℕ) → lts.Need-returns-then-value-lt10 (below t, own.Post) (at-measure t) own.Post
returns t c =
    let a = c.before.before.args in
    rw (decimal-small a.value c.if-value-lt10.true) (written_byte a.text.now a.at (48 + a.value) (slice-write-text t c))

write-number-requires : (t : ℕ) → lts.Need-write_number-end-requires (below t, own.Post) (at-measure t) own.Post
write-number-requires t c κs = (omega arith, omega (arith, more_length c.before.before.before.args.value c.before.if-value-lt10.false))

slice-write-text-2 : (t : ℕ) → lts.Need-bounds-text-end (below t, own.Post) (at-measure t) own.Post
slice-write-text-2 t c =
    let test = c.before.before.before.before in
    let called = c.before.before.write_number-end.ensures in
    omega (arith, called.place, written-length called, more_length test.before.before.args.value test.if-value-lt10.false)

returns-2 : (t : ℕ) → lts.Need-returns (below t, own.Post) (at-measure t) own.Post
returns-2 t c =
    let test = c.before.before.before.before in
    let value = test.before.before.args.value in
    let called = c.before.before.write_number-end in
    rw (decimal_more value test.if-value-lt10.false)
    (written_then called.ensures (written_byte called.new.text called.result (last_digit value) (slice-write-text-2 t c)))

pub +write_number_spec : {M : Type 1} → statement M
+write_number_spec =
    close μ
    (λ t.
    lts.spec (below t, own.Post) (at-measure t) own.Post (λ c. omega arith) (λ c. omega arith) (slice-write-text t)
    (λ c. omega (arith, slice-write-text t c)) (λ c. simp length-set) (returns t) (write-number-requires t) (λ c. omega arith) (λ c. omega arith)
    (slice-write-text-2 t)
    (λ c. omega (arith, slice-write-text-2 t c, written-length c.before.before.write_number-end.ensures))
    (λ c. simp length-set (written-length c.before.before.write_number-end.ensures)) (returns-2 t))
