-- The product of an accepted deviation and the tail cut is a number above zero: it never overflows, since the deviation's square does not.
use Rattle.std.proofs.Common.{◌≡◌, ℕ, ◌+◌, ◌*◌, ◌/◌, ◌^◌, ◌<◌, ◌≤◌, Bool, true, false, not, ◌||◌, T, ltb, sym, refl, subst, le_refl, lt_of_lt_of_le, le_of_lt, mul-pos, one-mul, le-div_iff_mul-le, mul-one, arith, ltb→lt, lt→ltb, ltb-false, ltb-true}
use lib.Ieee.{Float, nan, inf, fin, binary64, up, down, round, mul, lt, le}
use lib.Ieee.Fits.{up_pos, down_pos}
use lib.Ieee.Scale.{finite}
use lib.Ieee.Positive.{num, den, positive, above, above_of_le, between, cross→le, mul_mono, first_pos}
use borrow.Author.Tests.{not-false}
use Rattle.distr.specs.Constants.{literal}
use Rattle.distr.specs.Making.{bad_deviation}
use Rattle.distr.proofs.Reading.{or_false}
use Rattle.probability.proofs.Truncating.{power}

-- 0.7, 12.0 and the product of a deviation and 12.0.
abbrev smallest : Float
smallest = literal 7 10

abbrev pub tail_cut : Float
tail_cut = literal 12 1

abbrev pub product : Float → Float
product deviation = mul binary64 deviation tail_cut

-- What is not below a number above zero is above zero too, and no smaller.
pub record AtLeast (lo x : Float) : Type 0 where
  pub above_zero : T (positive x)
  pub no_less : T (le lo x)

none_below : (a b : ℕ) → 0 < b → ltb 0 (a + b) ≡ false → ⊥
none_below a b p h = omega (arith, ltb-false 0 (a + b) h)

not-below : (x lo : Float) → T (finite x) → T (positive lo) → lt x lo ≡ false → AtLeast lo x
unfolding lt
not-below nan lo f p h = absurd f
not-below (inf s) lo f p h = absurd f
not-below (fin s m e) nan f p h = absurd p
not-below (fin s m e) (inf t) f p h = absurd p
not-below (fin s m e) (fin true n d) f p h = absurd p
not-below (fin true m e) (fin false n d) f p h =
    absurd (none_below (m * up e * down d) (n * up d * down e) (mul-pos (mul-pos (ltb→lt 0 n p) (up_pos d)) (down_pos e)) h)
not-below (fin false m e) (fin false n d) f p h =
    let no_more = ltb-false (m * up e * down d) (n * up d * down e) h in
    let some = lt_of_lt_of_le (mul-pos (mul-pos (ltb→lt 0 n p) (up_pos d)) (down_pos e)) no_more in
    let above_zero = lt→ltb 0 m (first_pos m (up e) (first_pos (m * up e) (down d) some)) in
    record { above_zero = above_zero; no_less = cross→le (fin false n d) (fin false m e) p above_zero no_more }

-- Above zero and no infinity.
above-finite : (x : Float) → T (above x) → T (finite x) → T (positive x)
above-finite nan a f = absurd a
above-finite (inf s) a f = absurd f
above-finite (fin true m e) a f = absurd a
above-finite (fin false m e) a f = a

le_self : (x : Float) → T (positive x) → T (le x x)
le_self x p = cross→le x x p p (le_refl (num x * den x))

-- The constants are numbers above zero, by computation.
smallest-positive : T (positive smallest)
unfolding round
smallest-positive = tt

tail_positive : T (positive tail_cut)
unfolding round
tail_positive = tt

-- A deviation of 0.7 at least whose square does not overflow.
module _ (d : Float) (d-positive : T (positive d)) (d-least : T (le smallest d)) (square-finite : T (finite (mul binary64 d d))) where
  least : T (le (product smallest) (product d))
  least = mul_mono binary64 smallest d tail_cut tail_cut smallest-positive d-positive tail_positive tail_positive d-least (le_self tail_cut tail_positive)

  square_positive : T (positive (mul binary64 d d))
  square_positive =
      above-finite (mul binary64 d d)
      (above_of_le (mul binary64 smallest smallest) (mul binary64 d d) (unfold mul round in tt)
      (mul_mono binary64 smallest d smallest d smallest-positive d-positive smallest-positive d-positive d-least d-least))
      square-finite

  under : (hi : Float) → T (positive hi) → T (le (product d) hi) → T (positive (product d))
  under hi p h = between (product smallest) (product d) hi (unfold mul round in tt) p least h

  -- A deviation up to 12.0 has a product up to 144.0, and above it one up to the square.
  bounded : T (positive (product d))
  bounded = go (ltb (num d * den tail_cut) (num tail_cut * den d)) refl
    where
      go : (b : Bool) → ltb (num d * den tail_cut) (num tail_cut * den d) ≡ b → T (positive (product d))
      go true h =
          under (product tail_cut) (unfold mul round in tt)
          (mul_mono binary64 d tail_cut tail_cut tail_cut d-positive tail_positive tail_positive tail_positive
          (cross→le d tail_cut d-positive tail_positive (le_of_lt (ltb-true (num d * den tail_cut) (num tail_cut * den d) h)))
          (le_self tail_cut tail_positive))
      go false h =
          under (mul binary64 d d) square_positive
          (mul_mono binary64 d d tail_cut d d-positive d-positive tail_positive d-positive (le_self d d-positive)
          (cross→le tail_cut d tail_positive d-positive (ltb-false (num d * den tail_cut) (num tail_cut * den d) h)))

pub is_so : (b : Bool) → not b ≡ false → T b
is_so b h = subst T (sym (not-false b h)) tt

-- The definition's tests, taken apart: an accepted deviation is 0.7 at least, and its square is finite.
accepted : (d : Float) → bad_deviation d ≡ false → AtLeast smallest d × T (finite (mul binary64 d d))
accepted d h =
    let square = mul binary64 d d in
    let low = not (finite d) || lt d smallest in
    let first = (or_false (low || not (finite square)) (not (finite (mul binary64 (literal 2 1) square))) h).0 in
    let second = or_false low (not (finite square)) first in
    let third = or_false (not (finite d)) (lt d smallest) second.0 in
    (not-below d smallest (is_so (finite d) third.0) smallest-positive third.1, is_so (finite square) second.1)

pub deviation-positive : (d : Float) → bad_deviation d ≡ false → T (positive d)
deviation-positive d h = (accepted d h).0.above_zero

pub product-positive : (d : Float) → bad_deviation d ≡ false → T (positive (product d))
product-positive d h = let known = accepted d h in bounded d known.0.above_zero known.0.no_less known.1

-- A number above zero that is not below 2 ^ w has a whole part of 2 ^ w at least.
pub not-below-power : (w : ℕ) (x : Float) → T (positive x) → lt x (power w) ≡ false → 2 ^ w ≤ num x / den x
unfolding lt
not-below-power w nan p h = absurd p
not-below-power w (inf s) p h = absurd p
not-below-power w (fin true m e) p h = absurd p
not-below-power w (fin false m e) p h =
    (le-div_iff_mul-le (down_pos e)).1 (rw (mul-one, one-mul) at (ltb-false (m * up e * 1) (1 * 2 ^ w * down e) h))
