-- The threshold of a probability: below 1 it is the product by 2 ^ 64 cut to an integer, and that of 1 is 2 ^ 64.
use Rattle.std.proofs.Common.{◌≡◌, ℕ, ◌*◌, ◌/◌, ◌^◌, ◌<◌, Bool, true, false, ◌&&◌, ◌||◌, T, eqb, ℤ, pos, sym, ◌∙◌, subst, lt_of_lt_of_le, mul-le-mul_right, mul_comm, div-lt_iff_lt-mul, mul-lt-mul_of_pos_right, one-mul, zero-mul, mul-one, lit≤, eqb→eq, ltb→lt, pow_pos}
use native.Mathlib.Nat.{mul-div_cancel_left}
use lib.Ieee.{Float, nan, inf, fin, binary64, up, down, mul, lt, le, eq, fits, round}
use lib.Ieee.Fits.{and_l, and_r, down_pos}
use lib.Ieee.Scale.{finite}
use lib.Ieee.Positive.{num, den}
use borrow.Author.Tests.{not-false}
use Rattle.distr.specs.Layered.{in_unit}
use Rattle.distr.specs.Making.{bad_probability}
use Rattle.distr.specs.Thresholds.{threshold}
use Rattle.probability.proofs.Truncating.{minus_one, power, above_minus_one, below_power, whole_part}
use Rattle.probability.proofs.Scaling.{scaled_exact}

-- 0.0, 1.0 and the product by 2 ^ 64.
abbrev pub zero_float : Float
zero_float = fin false 0 (pos 0)

abbrev pub one : Float
one = fin false 1 (pos 0)

abbrev pub scaled : Float → Float
scaled p = mul binary64 p (power 64)

-- What is known of the product where p is below 1: it can be cut to a u64, and its whole part is the threshold.
pub record Below (p : Float) : Type 0 where
  pub above : T (lt minus_one (scaled p))
  pub below : T (lt (scaled p) (power 64))
  pub cut : num (scaled p) / den (scaled p) ≡ threshold p
  pub small : threshold p < 2 ^ 64

-- A number below 1 that is negative only as −0.0.
scaled-below : (s : Bool) (m : ℕ) (e : ℤ) → T (fits binary64 (fin s m e)) → (T s → m * up e ≡ 0) → m * up e < down e → Below (fin s m e)
scaled-below s m e f z h =
    let a = m * up e * 2 ^ 64 in
    let under : a < 2 ^ 64 * down e = rw (mul_comm (2 ^ 64) (down e)) (mul-lt-mul_of_pos_right h (pow_pos 64)) in
    let value = scaled_exact binary64 64 s m e f (lt_of_lt_of_le under (mul-le-mul_right (down e) (lit≤ tt))) in
    record {
      above = above_minus_one (scaled (fin s m e)) s a (down e) value (λ t. rw (z t) (down_pos e));
      below = below_power 64 (scaled (fin s m e)) s a (down e) value under;
      cut = whole_part (scaled (fin s m e)) s a (down e) (down_pos e) value;
      small = (div-lt_iff_lt-mul (down_pos e)).1 under;
    }

pub below_one : (p : Float) → T (fits binary64 p) → T (le zero_float p) → T (lt p one) → Below p
unfolding lt le
below_one nan f z h = absurd h
below_one (inf true) f z h = absurd z
below_one (inf false) f z h = absurd h
below_one (fin true m e) f z h =
    let none : m * up e ≡ 0 =
    sym (mul-one (m * up e)) ∙ sym (eqb→eq (0 * down e) (m * up e * 1) (and_l (eqb (0 * down e) (m * up e * 1)) _ z)) ∙ zero-mul (down e) in
    scaled-below true m e f (λ t. none) (rw none (down_pos e))
below_one (fin false m e) f z h =
    scaled-below false m e f absurd (rw (mul-one, one-mul) at (ltb→lt (m * up e * 1) (1 * down e) h))

or_second : (a b : Bool) → a ≡ false → T (a || b) → T b
or_second a b e t = subst (λ (z : Bool). T (z || b)) e t

equals_one : (p : Float) → T (eq p one) → threshold p ≡ 2 ^ 64
unfolding eq
equals_one nan t = absurd t
equals_one (inf s) t = absurd t
equals_one (fin s m e) t =
    let same : m * up e ≡ down e =
    sym (mul-one (m * up e)) ∙ eqb→eq (m * up e * 1) (1 * down e) (and_l (eqb (m * up e * 1) (1 * down e)) _ t) ∙ one-mul (down e) in
    rw same (mul-div_cancel_left (2 ^ 64) (down_pos e))

pub at_one : (p : Float) → T (le p one) → lt p one ≡ false → threshold p ≡ 2 ^ 64
unfolding le
at_one p l h = equals_one p (or_second (lt p one) (eq p one) h l)

-- The two ends of what is no bad probability.
in_unit_lem : (p : Float) → bad_probability p ≡ false → T (in_unit p)
in_unit_lem p h = and_r (finite p) (in_unit p) (subst T (sym (not-false (finite p && in_unit p) h)) tt)

pub above_zero : (p : Float) → bad_probability p ≡ false → T (le zero_float p)
unfolding round
above_zero p h = and_l (le zero_float p) (le p one) (in_unit_lem p h)

pub below_or_one : (p : Float) → bad_probability p ≡ false → T (le p one)
unfolding round
below_or_one p h = and_r (le zero_float p) (le p one) (in_unit_lem p h)
