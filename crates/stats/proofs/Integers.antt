-- Differences of naturals as integers.
use Rattle.std.proofs.Common.{◌≡◌, ℕ, zero, suc, ◌+◌, ◌-◌, ◌<◌, ◌≤◌, ℤ, pos, ◌+ℤ◌, ◌-ℤ◌, neg_ℤ, nat_abs, sym, refl, ap, ◌∙◌, add-zero, arith, le-ltb, lt-ltb}
use native.Mathlib.Nat.{sub-zero}
use lib.IntN.{sub_ℕ, +ℤ_assoc, +ℤ_comm, neg_ℤ-+ℤ}

-- the difference is the first number and the second turned negative
pub difference-is : (a b : ℕ) → sub_ℕ a b ≡ pos a -ℤ pos b
difference-is a zero = rw (le-ltb a 0 (omega arith), sub-zero a, add-zero a)
difference-is a (suc b) = refl

-- two differences are added by their parts
pub differences_add : (a b c d : ℕ) → sub_ℕ a b +ℤ sub_ℕ c d ≡ sub_ℕ (a + c) (b + d)
differences_add a b c d =
    ap (λ z. z +ℤ sub_ℕ c d) (difference-is a b)
    ∙ ap (λ z. pos a -ℤ pos b +ℤ z) (difference-is c d)
    ∙ exchanged (pos a) (neg_ℤ (pos b)) (pos c) (neg_ℤ (pos d))
    ∙ ap (λ z. pos a +ℤ pos c +ℤ z) (sym (neg_ℤ-+ℤ (pos b) (pos d)))
    ∙ sym (difference-is (a + c) (b + d))
  where
    exchanged : (p q r s : ℤ) → p +ℤ q +ℤ (r +ℤ s) ≡ p +ℤ r +ℤ (q +ℤ s)
    exchanged p q r s =
        +ℤ_assoc p q (r +ℤ s)
        ∙ ap (λ z. p +ℤ z) (sym (+ℤ_assoc q r s) ∙ ap (λ z. z +ℤ s) (+ℤ_comm q r) ∙ +ℤ_assoc r q s)
        ∙ sym (+ℤ_assoc p r (q +ℤ s))

-- the magnitude of a difference
pub size_less : (a b : ℕ) → a < b → nat_abs (sub_ℕ a b) ≡ b - a
size_less a b h = rw (lt-ltb a b h) (omega arith)

pub size_more : (a b : ℕ) → b ≤ a → nat_abs (sub_ℕ a b) ≡ a - b
size_more a b h = rw (le-ltb a b h)
