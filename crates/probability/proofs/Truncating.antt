-- A float that is cut to an unsigned integer of w bits is the whole part of its size, where it lies above −1 and below 2 ^ w.
use Rattle.std.proofs.Common.{◌≡◌, ℕ, ◌+◌, ◌-◌, ◌*◌, ◌/◌, ◌^◌, ◌<◌, min, Bool, true, false, T, pos, sym, subst, div-lt_iff_lt-mul, lt_of_mul-lt-mul_right, mul-lt-mul_of_pos_right, mul-pos, one-mul, mul-one, mul_right_comm, arith, ltb→lt, lt→ltb, pow_pos}
use native.Mathlib.Nat.{div-eq_of_lt}
use lib.Ieee.{Float, nan, inf, fin, up, down, lt, to_unsigned}
use lib.Ieee.Fits.{down_pos}
use lib.Ieee.Exact.{HasValue}
use lib.Ieee.Nearest.{div_same}
use lib.Ieee.Positive.{num, den}

-- The two ends that a truncating function asks for.
abbrev pub minus_one : Float
minus_one = fin true 1 (pos 0)

abbrev pub power : ℕ → Float
power w = fin false 1 (pos w)

uncapped : (a c : ℕ) → a < c → min a (c - 1) ≡ a
uncapped a c h = omega arith

-- Between the two ends, the whole part.
pub truncated : (w : ℕ) (x : Float) → T (lt minus_one x) → T (lt x (power w)) → to_unsigned w x ≡ num x / den x
unfolding to_unsigned lt
truncated w nan a b = absurd a
truncated w (inf true) a b = absurd a
truncated w (inf false) a b = absurd b
truncated w (fin true m e) a b =
    sym (div-eq_of_lt (rw (mul-one (m * up e), one-mul (down e)) at (ltb→lt (m * up e * 1) (1 * down e) a)))
truncated w (fin false m e) a b =
    uncapped (m * up e / down e) (2 ^ w)
    ((div-lt_iff_lt-mul (down_pos e)).1 (rw (mul-one (m * up e), one-mul (2 ^ w)) at (ltb→lt (m * up e * 1) (1 * 2 ^ w * down e) b)))

-- n / d and a / c are one number, so both are below b.
cross_lt : (n d a c b : ℕ) → 0 < d → n * c ≡ a * d → a < b * c → n < b * d
cross_lt n d a c b D e h = lt_of_mul-lt-mul_right c (rw (e, mul_right_comm b d c) (mul-lt-mul_of_pos_right h D))

-- A float of the size a / c lies above −1 and below 2 ^ w where a / c says so, and its whole part is that of a / c.
pub above_minus_one : (x : Float) (s : Bool) (a c : ℕ) → HasValue x s a c → (T s → a < c) → T (lt minus_one x)
unfolding lt
above_minus_one nan s a c v h = absurd v
above_minus_one (inf t) s a c v h = absurd v
above_minus_one (fin true m e) s a c v h =
    lt→ltb (m * up e * 1) (1 * down e)
    (rw mul-one (cross_lt (m * up e) (down e) a c 1 (down_pos e) v.1 (rw one-mul (h (subst T v.0 tt)))))
above_minus_one (fin false m e) s a c v h = lt→ltb 0 (1 * down e + m * up e * 1) (omega (arith, down_pos e))

pub below_power : (w : ℕ) (x : Float) (s : Bool) (a c : ℕ) → HasValue x s a c → a < 2 ^ w * c → T (lt x (power w))
unfolding lt
below_power w nan s a c v h = absurd v
below_power w (inf t) s a c v h = absurd v
below_power w (fin true m e) s a c v h =
    lt→ltb 0 (m * up e * 1 + 1 * 2 ^ w * down e) (rw one-mul (omega (arith, mul-pos (pow_pos w) (down_pos e))))
below_power w (fin false m e) s a c v h =
    lt→ltb (m * up e * 1) (1 * 2 ^ w * down e)
    (rw (mul-one, one-mul) (cross_lt (m * up e) (down e) a c (2 ^ w) (down_pos e) v.1 h))

pub whole_part : (x : Float) (s : Bool) (a c : ℕ) → 0 < c → HasValue x s a c → num x / den x ≡ a / c
whole_part nan s a c p v = absurd v
whole_part (inf t) s a c p v = absurd v
whole_part (fin t m e) s a c p v = div_same (m * up e) (down e) a c (down_pos e) p v.1
