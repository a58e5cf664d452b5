-- When f64's equality is equality: a number above zero equals, among the values that a format holds, only itself.
use Rattle.std.proofs.Common.{◌≡◌, ℕ, ◌*◌, ◌^◌, ◌<◌, Bool, true, false, T, eqb, ℤ, sym, refl, ap, ◌∙◌, mul-pos, mul_right_comm, arith, eqb→eq, ltb→lt, eq-eqb}
use mathlib.Core.Bool.{beq}
use lib.Ieee.{Float, nan, inf, fin, Format, low, up, down, eq, fits, of_bits, to_bits}
use lib.Ieee.Bits.{of_bits-to_bits}
use lib.Ieee.Fits.{up_pos, down_pos, and_l, and_r}
use lib.Ieee.Nearest.{div_same}
use lib.Ieee.Positive.{positive}
use lib.Ieee.Scale.{finite}

-- One number with one sign has one bit pattern.
same_bits : (f : Format) (s : Bool) (m n : ℕ) (e d : ℤ) → m * up e * down d ≡ n * up d * down e → to_bits f (fin s m e) ≡ to_bits f (fin s n d)
unfolding to_bits
same_bits f s m n e d h =
    rw (div_same (m * up e * 2 ^ low f) (down e) (n * up d * 2 ^ low f) (down d) (down_pos e) (down_pos d)
    (mul_right_comm (m * up e) (2 ^ low f) (down d) ∙ ap (λ (z : ℕ). z * 2 ^ low f) h ∙ mul_right_comm (n * up d) (down e) (2 ^ low f)))

by_bits : (f : Format) (x y : Float) → T (fits f x) → T (fits f y) → to_bits f x ≡ to_bits f y → x ≡ y
by_bits f x y g h e = sym (of_bits-to_bits f x g) ∙ ap (of_bits f) e ∙ of_bits-to_bits f y h

-- The number is not zero, so its sign is the other's too.
no_zero : (a : ℕ) → 0 < a → T (eqb a 0) → ⊥
no_zero a p z = omega (arith, eqb→eq a 0 z)

pub eq-same : (f : Format) (x y : Float) → T (fits f x) → T (fits f y) → T (positive y) → T (eq x y) → x ≡ y
unfolding eq
eq-same f x nan g h p q = absurd p
eq-same f x (inf t) g h p q = absurd p
eq-same f x (fin true n d) g h p q = absurd p
eq-same f nan (fin false n d) g h p q = absurd q
eq-same f (inf s) (fin false n d) g h p q = absurd q
eq-same f (fin true m e) (fin false n d) g h p q =
    let a = m * up e * down d in
    let b = n * up d * down e in
    let same = eqb→eq a b (and_l (eqb a b) (eqb a 0) q) in
    absurd (no_zero a (rw same (mul-pos (mul-pos (ltb→lt 0 n p) (up_pos d)) (down_pos e))) (and_r (eqb a b) (eqb a 0) q))
eq-same f (fin false m e) (fin false n d) g h p q =
    let a = m * up e * down d in
    let b = n * up d * down e in
    by_bits f (fin false m e) (fin false n d) g h (same_bits f false m n e d (eqb→eq a b (and_l (eqb a b) true q)))

-- The test of two flags.
pub beq_same : (a b : Bool) → T (beq a b) → a ≡ b
beq_same true true h = refl
beq_same true false h = absurd h
beq_same false true h = absurd h
beq_same false false h = refl

pub beq_self : (b : Bool) → beq b b ≡ true
beq_self true = refl
beq_self false = refl

-- A number equals itself.
pub eq_self : (x : Float) → T (finite x) → eq x x ≡ true
unfolding eq
eq_self nan h = absurd h
eq_self (inf s) h = absurd h
eq_self (fin s m e) h = rw (beq_self s, eq-eqb (m * up e * down e) (m * up e * down e) refl)
