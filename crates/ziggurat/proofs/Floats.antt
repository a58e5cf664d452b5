-- Whole numbers up to 2^53 are compared as f64 as they are compared as integers.
use mathlib.Core.Path.{◌≡◌, refl, sym, ap, ap₂, ◌∙◌}
use mathlib.Core.Bool.{Bool, true, false, ◌&&◌, ◌||◌, true≢false}
use Prim.Native.Nat.{ℕ, ◌*◌, ◌^◌, ◌<◌, ◌≤◌}
use native.Mathlib.Nat.{mul-pos, mul_comm, mul_assoc, mul-one, mul-le-mul_right, mul-lt-mul_of_pos_right}
use native.Mathlib.Omega.{arith}
use lib.Dec.{leb, ltb, eqb}
use borrow.Author.Tests.{ltb-false, leb-true, leb-false, le-ltb, le-leb, lt-leb, eq-eqb, ne_eqb}
use lib.Ieee.{Float, binary64, nan, inf, fin, up, down, lt, eq, le, of_int}
use lib.Ieee.Back.{round_whole}
use lib.Ieee.Exact.{HasValue}
use lib.Ieee.Fits.{down_pos}
use Rattle.distr.specs.Layered.{float}

-- one number is at most another, as the comparison of two fractions says it
by_tests : (p q : ℕ) → ltb p q || (eqb p q && true) ≡ leb p q
by_tests p q = go (leb p q) refl
  where
    at_most : p ≤ q → (b : Bool) → ltb p q ≡ b → ltb p q || (eqb p q && true) ≡ true
    at_most h true e = rw e
    at_most h false e = rw (e, eq-eqb p q (omega (arith, ltb-false p q e)))

    go : (b : Bool) → leb p q ≡ b → ltb p q || (eqb p q && true) ≡ b
    go true e = at_most (leb-true p q e) (ltb p q) refl
    go false e =
        let above : q < p = leb-false p q e in
        rw (le-ltb p q (omega arith), ne_eqb p q (λ z. omega arith))

scaled-leb : (a b k : ℕ) → 0 < k → leb (a * k) (b * k) ≡ leb a b
scaled-leb a b k some = go (leb a b) refl
  where
    go : (t : Bool) → leb a b ≡ t → leb (a * k) (b * k) ≡ t
    go true e = le-leb (a * k) (b * k) (mul-le-mul_right k (leb-true a b e))
    go false e = lt-leb (a * k) (b * k) (mul-lt-mul_of_pos_right (leb-false a b e) some)

-- whole numbers are compared as their values
whole_le : (x y : Float) (a b : ℕ) → HasValue x false a 1 → HasValue y false b 1 → le x y ≡ leb a b
unfolding le lt eq
whole_le nan y a b p q = absurd p
whole_le (inf s) y a b p q = absurd p
whole_le (fin true m e) y a b p q = absurd (true≢false p.0)
whole_le (fin false m e) nan a b p q = absurd q
whole_le (fin false m e) (inf t) a b p q = absurd q
whole_le (fin false m e) (fin true n d) a b p q = absurd (true≢false q.0)
whole_le (fin false m e) (fin false n d) a b p q =
    by_tests (m * up e * down d) (n * up d * down e)
    ∙ ap₂ leb (over (m * up e) a (down e) (down d) p.1) (over (n * up d) b (down d) (down e) q.1 ∙ ap (λ (k : ℕ). b * k) (mul_comm (down d) (down e)))
    ∙ scaled-leb a b (down e * down d) (mul-pos (down_pos e) (down_pos d))
  where
    over : (z c k l : ℕ) → z * 1 ≡ c * k → z * l ≡ c * (k * l)
    over z c k l h = ap (λ (w : ℕ). w * l) (sym (mul-one z) ∙ h) ∙ mul_assoc c k l

-- up to 2^53 every number is an f64, and the order is that of the numbers
pub float_le : (a b : ℕ) → a ≤ 2 ^ 53 → b ≤ 2 ^ 53 → le (float a) (float b) ≡ leb a b
unfolding of_int
float_le a b h k = whole_le (float a) (float b) a b (round_whole binary64 false a h) (round_whole binary64 false b k)
