-- A product by a power of two is exact as long as it does not overflow: it moves the exponent and keeps the digits.
use Rattle.std.proofs.Common.{◌≡◌, ℕ, zero, suc, ◌+◌, ◌-◌, ◌*◌, ◌%◌, ◌^◌, ◌<◌, ◌≤◌, Bool, true, false, ◌&&◌, T, eqb, ltb, leb, ℤ, pos, negsuc, sym, refl, ap, ◌∙◌, subst, le_trans, le_of_eq, le_of_suc-le-suc, mul-le-mul_right, mul_assoc, mul_comm, lt_of_mul-lt-mul_right, mul-lt-mul_of_pos_right, one-mul, lt_of_not-le, mul-one, not-le_of_lt, arith, eqb→eq, ltb→lt, leb→le, pow_pos, pow-add}
use lib.Pow.{pow-lt}
use lib.Ieee.{fin, Format, prec, emax, low, up, down, unlike, mul, fits}
use lib.Ieee.Fits.{and_l, and_r, up_pos, down_pos}
use lib.Ieee.Exact.{HasValue, round_exact}
use Rattle.probability.proofs.Truncating.{power}

-- What a format holds has no more digits than it keeps, and no exponent below its lowest.
digits_fit : (f : Format) (s : Bool) (m : ℕ) (e : ℤ) → T (fits f (fin s m e)) → (m < 2 ^ prec f) × (down e ≤ 2 ^ low f)
unfolding fits
digits_fit f s zero e h = (
  pow_pos (prec f),
  le_trans (subst (λ (z : ℕ). z ≤ up e * down e) (one-mul (down e)) (mul-le-mul_right (down e) (up_pos e)))
      (le_trans (le_of_eq (eqb→eq (up e * down e) 1 h)) (pow_pos (low f))),
)
digits_fit f s (suc m) e h =
    let odd = eqb (suc m % 2) 1 in
    let short = ltb (suc m) (2 ^ prec f) in
    let high = leb (down e) (2 ^ low f) in
    let within = and_l (odd && short && high) (ltb (suc m * up e) (2 ^ suc (emax f) * down e)) h in
    (ltb→lt (suc m) (2 ^ prec f) (and_r odd short (and_l (odd && short) high within)), leb→le (down e) (2 ^ low f) (and_r (odd && short) high within))

pow_le_back : (i j : ℕ) → 2 ^ i ≤ 2 ^ j → i ≤ j
pow_le_back i j h = le_of_suc-le-suc (lt_of_not-le (λ (g : suc j ≤ i). not-le_of_lt (pow-lt g) h))

-- In the format's smallest values a product by 2 ^ t is its digits with so many places behind them.
abbrev places : Format → ℕ → ℤ → ℕ
places f t (pos k) = k + (t + low f)
places f t (negsuc k) = t + low f - suc k

back : (t l k : ℕ) → k ≤ l → t + l - k + k ≡ t + l
back t l k h = omega arith

-- The product, counted so.
in_places : (f : Format) (t m : ℕ) (e : ℤ) → down e ≤ 2 ^ low f → m * up e * 2 ^ t * 2 ^ low f ≡ m * 2 ^ places f t e * down e
in_places f t m (pos k) h = simp (mul_assoc, mul-one, pow-add)
in_places f t m (negsuc k) h =
    ap (λ (z : ℕ). z * 2 ^ t * 2 ^ low f) (mul-one m)
    ∙ mul_assoc m (2 ^ t) (2 ^ low f)
    ∙ ap (λ (z : ℕ). m * z)
    (sym (pow-add 2 t (low f)) ∙ ap (λ (z : ℕ). 2 ^ z) (sym (back t (low f) (suc k) (pow_le_back (suc k) (low f) h))) ∙ pow-add 2 (t + low f - suc k) (suc k))
    ∙ sym (mul_assoc m (2 ^ (t + low f - suc k)) (2 ^ suc k))

unlike-positive : (s : Bool) → unlike s false ≡ s
unlike-positive true = refl
unlike-positive false = refl

-- A number a / c below 2 ^ n is q of the values 2 ^ -l, with q below 2 ^ (l + n).
below_overflow : (l n a q c : ℕ) → a * 2 ^ l ≡ q * c → a < 2 ^ n * c → q < 2 ^ (l + n)
below_overflow l n a q c e h =
    lt_of_mul-lt-mul_right c
    (rw (pow-add 2 l n, ← e, mul_assoc (2 ^ l) (2 ^ n) c, mul_comm (2 ^ l) (2 ^ n * c)) (mul-lt-mul_of_pos_right h (pow_pos l)))

-- The product of what the format holds and 2 ^ t, below the overflow, is that number.
pub scaled_exact : (f : Format) (t : ℕ) (s : Bool) (m : ℕ) (e : ℤ) → T (fits f (fin s m e)) → m * up e * 2 ^ t < 2 ^ suc (emax f) * down e
    → HasValue (mul f (fin s m e) (power t)) s (m * up e * 2 ^ t) (down e)
unfolding mul
scaled_exact f t s m e h k =
    let small = digits_fit f s m e h in
    let units = in_places f t m e small.1 in
    rw (unlike-positive s, one-mul (2 ^ t), mul-one (down e))
    (round_exact f s (m * up e * 2 ^ t) (down e) m (places f t e) (down_pos e) small.0
    (below_overflow (low f) (suc (emax f)) (m * up e * 2 ^ t) (m * 2 ^ places f t e) (down e) units k) units)
