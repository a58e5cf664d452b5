-- A number in two halves of 64 bits: the digits of one below ten, and how many digits there are at most.
use mathlib.Core.Path.{◌≡◌}
use mathlib.Core.List.{[], ◌∷◌}
use Prim.Native.Nat.{ℕ, ◌+◌, ◌*◌, ◌^◌, ◌<◌, ◌≤◌}
use native.Mathlib.Nat.{lt_of_lt_of_le}
use native.Mathlib.Omega.{arith}
use lib.Arith.{digits_lt}
use lib.Dec.{lit≤}
use lib.ListN.{length}
use Rattle.decimal.specs.Decimal.{decimal}
use Rattle.decimal.proofs.Digits.{decimal-small, decimal-few}

pub one-digit : (high low : ℕ) → high ≡ 0 → low < 10 → decimal (high * 2 ^ 64 + low) ≡ (48 + low) ∷ []
one-digit high low z h = let same : high * 2 ^ 64 + low ≡ low = omega arith in rw same (decimal-small low h)

-- 2^128 is less than 10^39
pub digits_fit : {high low : ℕ} → high < 2 ^ 64 → low < 2 ^ 64 → length (decimal (high * 2 ^ 64 + low)) ≤ 39
digits_fit h l = decimal-few 38 _ (lt_of_lt_of_le (digits_lt h l) (lit≤ tt))
