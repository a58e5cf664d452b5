-- Decimal text says its number: reading the digits back gives it.
use mathlib.Core.Path.{◌≡◌, refl}
use mathlib.Core.List.{List, [], ◌∷◌, ◌++◌}
use mathlib.Core.Logic.{⊎_elim}
use Prim.Native.Nat.{ℕ, zero, suc, ◌+◌, ◌*◌, ◌/◌, ◌-◌, ◌≤◌}
use native.Mathlib.Nat.{eq-zero-or-pos}
use native.Mathlib.Omega.{arith}
use Rattle.decimal.specs.Decimal.{last_digit, decimal, value_from}
use Rattle.decimal.proofs.Digits.{decimal-small, decimal_more}

value_append : (v : ℕ) (xs ys : List ℕ) → value_from v (xs ++ ys) ≡ value_from (value_from v xs) ys
unfolding value_from
value_append v [] ys = refl
value_append v (x ∷ xs) ys = value_append (v * 10 + (x - 48)) xs ys

-- for all numbers up to a bound
read_to : (m n : ℕ) → n ≤ m → value_from 0 (decimal n) ≡ n
unfolding value_from
read_to zero n h = rw (decimal-small n (omega arith)) (omega arith)
read_to (suc m) n h =
    ⊎_elim (λ none. rw (decimal-small n (omega arith)) (omega arith))
    (λ some.
    rw (decimal_more n (omega arith), value_append 0 (decimal (n / 10)) (last_digit n ∷ []), read_to m (n / 10) (omega arith)) (omega arith))
    (eq-zero-or-pos (n / 10))

pub round_trip : (n : ℕ) → value_from 0 (decimal n) ≡ n
round_trip n = read_to n n (omega arith)
