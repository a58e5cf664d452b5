-- The difference of two naturals as an integer.
use mathlib.Core.Path.{◌≡◌, sym, ap, ◌∙◌}
use Prim.Native.Nat.{ℕ, zero, suc, ◌-◌, ◌<◌, ◌≤◌}
use native.Mathlib.Nat.{add-zero, sub-zero}
use native.Mathlib.Omega.{arith}
use borrow.Author.Tests.{lt-ltb, le-ltb}
use lib.IntN.{pos, negsuc, ◌-ℤ◌}

-- not below zero
pub minus_pos : (x y : ℕ) → y ≤ x → pos x -ℤ pos y ≡ pos (x - y)
minus_pos x zero h = ap pos (add-zero x ∙ sym (sub-zero x))
minus_pos x (suc y) h = rw (le-ltb x (suc y) h)

-- below zero
pub minus_neg : (x y : ℕ) → x < y → pos x -ℤ pos y ≡ negsuc (y - x - 1)
minus_neg x zero h = absurd (omega arith)
minus_neg x (suc y) h = rw (lt-ltb x (suc y) h) (ap negsuc (omega arith))
