-- The threshold of a probability is at most 2^64.
use mathlib.Core.Path.{◌≡◌}
use mathlib.Core.Logic.{◌⊎◌, inl, inr}
use mathlib.Core.Bool.{true, false, not, ◌&&◌, true≢false, not-not}
use Prim.Native.Nat.{ℕ, ◌*◌, ◌^◌, ◌<◌, ◌≤◌}
use native.Mathlib.Nat.{zero-mul, mul-pos, mul-le-mul_right, div-le_of_le-mul, eq-zero-or-pos}
use native.Mathlib.Omega.{arith}
use lib.Dec.{T, eqb, eqb→eq, lt→ltb}
use lib.IntN.{ℤ}
use lib.Ieee.{Float, nan, inf, fin, binary64, up, down, le}
use lib.Ieee.Back.{round_whole}
use lib.Ieee.Exact.{HasValue}
use lib.Ieee.Fits.{and_l, and_r, down_pos}
use lib.Ieee.Positive.{num, den, positive, own_value, positive_of_value, values_of_le}
use lib.Ieee.Scale.{finite}
use Rattle.distr.specs.Constants.{literal}
use Rattle.distr.specs.Layered.{in_unit}
use Rattle.distr.specs.Making.{bad_probability}
use Rattle.distr.specs.Thresholds.{threshold}

-- what is not below zero and yet has a minus sign is zero
minus_zero : (z : Float) (m : ℕ) (e : ℤ) → HasValue z false 0 1 → T (le z (fin true m e)) → m * up e ≡ 0
unfolding le
minus_zero nan m e v h = absurd v
minus_zero (inf s) m e v h = absurd v
minus_zero (fin true n d) m e v h = absurd (true≢false v.0)
minus_zero (fin false n d) m e v h = go (eq-zero-or-pos (m * up e))
  where
    left : ℕ
    left = n * up d * down e

    right : ℕ
    right = m * up e * down d

    equal : left ≡ right
    equal = eqb→eq left right (and_l (eqb left right) (eqb left 0) h)

    none : left ≡ 0
    none = eqb→eq left 0 (and_r (eqb left right) (eqb left 0) h)

    go : (m * up e ≡ 0) ⊎ (0 < m * up e) → m * up e ≡ 0
    go (inl z) = z
    go (inr l) = absurd (omega (arith, equal, none, mul-pos l (down_pos d)))

-- the exact fraction of a probability is at most 1
num-le-den : (p : Float) → T (finite p) → T (in_unit p) → num p ≤ den p
num-le-den nan f h = absurd f
num-le-den (inf s) f h = absurd f
num-le-den (fin true m e) f h =
    let above : T (le (literal 0 1) (fin true m e)) = and_l (le (literal 0 1) (fin true m e)) (le (fin true m e) (literal 1 1)) h in
    let z : m * up e ≡ 0 = minus_zero (literal 0 1) m e (round_whole binary64 false 0 (omega arith)) above in
    omega arith
num-le-den (fin false m e) f h = go (eq-zero-or-pos m)
  where
    p : Float
    p = fin false m e

    one : HasValue (literal 1 1) false 1 1
    one = round_whole binary64 false 1 (omega arith)

    go : (m ≡ 0) ⊎ (0 < m) → m * up e ≤ down e
    go (inl z) = rw (z, zero-mul (up e)) (omega arith)
    go (inr l) =
        let some : T (positive p) = lt→ltb 0 m l in
        let one-positive : T (positive (literal 1 1)) = positive_of_value (literal 1 1) 1 1 one (omega arith) in
        let below : T (le p (literal 1 1)) = and_r (le (literal 0 1) p) (le p (literal 1 1)) h in
        let k : num p * 1 ≤ 1 * den p = values_of_le p (literal 1 1) (num p) (den p) 1 1 some one-positive (own_value p some) one below in
        omega arith

-- the threshold of a probability is at most 2^64
pub threshold-le : (p : Float) → T (not (bad_probability p)) → threshold p ≤ 2 ^ 64
threshold-le p t =
    let good : T (finite p && in_unit p) = rw (not-not (finite p && in_unit p)) at t in
    let k : num p ≤ den p = num-le-den p (and_l (finite p) (in_unit p) good) (and_r (finite p) (in_unit p) good) in
    div-le_of_le-mul (den p) (mul-le-mul_right (2 ^ 64) k)
