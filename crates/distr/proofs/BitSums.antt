-- The two sums of the centered binomial are counts of ones: of the low eta bits of a number, and of the eta bits above them.
use mathlib.Core.Path.{◌≡◌, refl, ap, ◌∙◌}
use mathlib.Core.Bool.{Bool, true, false}
use mathlib.Core.List.{List}
use Prim.Native.Nat.{ℕ, zero, suc, ◌+◌, ◌-◌, ◌*◌, ◌/◌, ◌%◌, ◌^◌, ◌<◌, ◌≤◌, zero-le}
use native.Mathlib.Nat.{mod-one, pow-suc}
use native.Mathlib.Omega.{arith}
use borrow.Author.Tests.{ltb-true}
use lib.ListN.{take, drop}
use lib.Arith.{digits_div, digits_mod, mod-mul}
use lib.Pow.{pow_pos}
use lib.Dec.{ltb, lit<}
use lib.Count.{ones, ones_step}
use lib.IntN.{pos, nat_abs, sub_ℕ, ◌-ℤ◌}
use Rattle.distr.specs.Packed.{digits}
use Rattle.distr.specs.CenteredBinomial.{total}
use Rattle.distr.proofs.Digits.{take-digits, drop-digits}

-- the sum of the k lowest bits
pub total-bits : (k x : ℕ) → total (digits 2 k x) ≡ ones (x % 2 ^ k)
unfolding digits total ones
total-bits zero x = rw mod-one
total-bits (suc k) x =
    ap (λ (y : ℕ). x % 2 + y) (total-bits k (x / 2))
    ∙ rw (low_bit, ones_step (x / 2 % 2 ^ k * 2 + x % 2), digits_mod (x / 2 % 2 ^ k) {m = 2} below, digits_div (x / 2 % 2 ^ k) {m = 2} below)
  where
    below : x % 2 < 2
    below = omega arith

    low_bit : x % 2 ^ suc k ≡ x / 2 % 2 ^ k * 2 + x % 2
    low_bit = rw pow-suc (mod-mul x {m = 2 ^ k} {c = 2} (pow_pos k) (lit< tt))

-- x, the ones of the low eta bits; y, the ones of the eta bits above them
pub first-ones : (width eta w : ℕ) → eta ≤ width → total (take eta (digits 2 width w)) ≡ ones (w % 2 ^ eta)
first-ones width eta w h = ap total (take-digits 2 width eta w h) ∙ total-bits eta w

pub second_ones : (width eta w : ℕ) → 2 * eta ≤ width → total (take eta (drop eta (digits 2 width w))) ≡ ones (w / 2 ^ eta % 2 ^ eta)
second_ones width eta w h =
    ap (λ (l : List ℕ). total (take eta l)) (drop-digits 2 width eta w (omega arith))
    ∙ ap total (take-digits 2 (width - eta) eta (w / 2 ^ eta) (omega arith)) ∙ total-bits eta (w / 2 ^ eta)

-- k bits at any place have a sum of at most k
pub total_at_most : (m j k x : ℕ) → total (take k (drop j (digits 2 m x))) ≤ k
unfolding digits total
total_at_most zero zero zero x = zero-le
total_at_most zero zero (suc k) x = zero-le
total_at_most zero (suc j) zero x = zero-le
total_at_most zero (suc j) (suc k) x = zero-le
total_at_most (suc m) zero zero x = zero-le
total_at_most (suc m) zero (suc k) x = omega (arith, total_at_most m zero k (x / 2))
total_at_most (suc m) (suc j) k x = total_at_most m j k (x / 2)

-- so the magnitude of the difference of two such sums is at most k
pub difference_at_most : {most : ℕ} (x y : ℕ) → x ≤ most → y ≤ most → nat_abs (pos x -ℤ pos y) ≤ most
difference_at_most x zero h k = omega arith
difference_at_most {most} x (suc y) h k = go (ltb x (suc y)) refl
  where
    go : (b : Bool) → ltb x (suc y) ≡ b → nat_abs (sub_ℕ x (suc y)) ≤ most
    go true e = rw e (omega (arith, ltb-true x (suc y) e))
    go false e = rw e (omega arith)
