-- The decimal digits of a number: by its last digit and the number before it, and how many they are.
use mathlib.Core.Path.{◌≡◌, refl, ap, ◌∙◌}
use mathlib.Core.List.{[], ◌∷◌, ◌++◌}
use Prim.Native.Nat.{ℕ, zero, suc, ◌+◌, ◌/◌, ◌^◌, ◌<◌, ◌≤◌}
use native.Mathlib.Nat.{div-eq_of_lt, mod-eq_of_lt, div-lt_iff_lt-mul, pow-suc}
use native.Mathlib.Omega.{arith}
use lib.ListN.{length, length-append}
use Rattle.decimal.specs.Decimal.{last_digit, digits_of, decimal}

digits-zero : (more : ℕ) → digits_of more 0 ≡ []
unfolding digits_of
digits-zero zero = refl
digits-zero (suc more) = refl

-- any bound on the number of digits that is large enough gives the same
digits-enough : (m k n : ℕ) → n ≤ m → n ≤ k → digits_of m n ≡ digits_of k n
unfolding digits_of
digits-enough zero k n h l = let none : n ≡ 0 = omega arith in rw (none, digits-zero k)
digits-enough (suc m) zero n h l = let none : n ≡ 0 = omega arith in rw none
digits-enough (suc m) (suc k) zero h l = refl
digits-enough (suc m) (suc k) (suc n) h l = rw (digits-enough m k (suc n / 10) (omega arith) (omega arith))

-- a bound of one more gives the number before the last digit, and the last digit
digits_more : (m n : ℕ) → 0 < n → digits_of (suc m) n ≡ digits_of m (n / 10) ++ (last_digit n ∷ [])
unfolding digits_of
digits_more m zero h = absurd (omega arith)
digits_more m (suc n) h = refl

pub decimal-small : (n : ℕ) → n < 10 → decimal n ≡ (48 + n) ∷ []
unfolding decimal
decimal-small n h = rw (div-eq_of_lt h, digits-zero n, mod-eq_of_lt h)

pub decimal_more : (n : ℕ) → 10 ≤ n → decimal n ≡ decimal (n / 10) ++ (last_digit n ∷ [])
unfolding decimal
decimal_more zero h = absurd (omega arith)
decimal_more (suc m) h =
    rw (digits_more m (suc m / 10) (omega arith), digits-enough m (suc m / 10) (suc m / 10 / 10) (omega arith) (omega arith))

-- a number below 10^k has at most k digits
digits-few : (k m n : ℕ) → n < 10 ^ k → length (digits_of m n) ≤ k
unfolding digits_of
digits-few zero m n h = let none : n ≡ 0 = omega arith in rw (none, digits-zero m) (omega arith)
digits-few (suc k) zero n h = omega arith
digits-few (suc k) (suc m) zero h = omega arith
digits-few (suc k) (suc m) (suc n) h =
    let fewer = digits-few k m (suc n / 10) ((div-lt_iff_lt-mul (omega arith)).1 (rw pow-suc at h)) in
    omega (arith, fewer, length-append (digits_of m (suc n / 10)) (last_digit (suc n) ∷ []))

-- and 0 has one
pub decimal-few : (k n : ℕ) → n < 10 ^ suc k → length (decimal n) ≤ suc k
unfolding decimal
decimal-few k n h =
    let fewer = digits-few k n (n / 10) ((div-lt_iff_lt-mul (omega arith)).1 (rw pow-suc at h)) in
    omega (arith, fewer, length-append (digits_of n (n / 10)) (last_digit n ∷ []))

-- the lengths of the two forms
pub small-length : (n : ℕ) → n < 10 → length (decimal n) ≡ 1
small-length n h = ap length (decimal-small n h)

pub more_length : (n : ℕ) → 10 ≤ n → length (decimal n) ≡ length (decimal (n / 10)) + 1
more_length n h = ap length (decimal_more n h) ∙ length-append (decimal (n / 10)) (last_digit n ∷ [])
