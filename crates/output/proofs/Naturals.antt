-- A count below 2^63 is what `natural` holds, and a bit is such a count.
use Prim.Native.Nat.{ℕ, ◌%◌, ◌^◌, ◌<◌, ◌≤◌}
use native.Mathlib.Omega.{arith}
use mathlib.Core.Bool.{Bool, true, false}
use mathlib.Core.Path.{◌≡◌}
use mir.Val.{bool_byte}

pub natural_small : (n : ℕ) → n < 2 ^ 63 → n % 2 ^ 63 ≡ n
natural_small n below = omega arith

pub bit-most : (b : Bool) → bool_byte b ≤ 1
bit-most true = omega arith
bit-most false = omega arith
