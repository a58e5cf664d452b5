-- What is known where neither 27 nor 28 refuses, and the whole answer from the number and what is written.
use Prim.Native.Nat.{ℕ, ◌*◌}
use mathlib.Core.Path.{◌≡◌, refl, sym}
use mathlib.Core.Bool.{Bool, true, false, not, ◌||◌}
use mathlib.Core.Logic.{inl, inr, ⊎_elim}
use mathlib.Core.List.{List, [], ◌∷◌}
use native.Mathlib.Omega.{arith}
use borrow.Author.Tests.{eqb-true}
use lib.Dec.{eqb}
use lib.ListN.{length}
use Rattle.distr.specs.Constants.{cbd_coefficients}
use Rattle.distr.specs.declared.refusal.Refusal.{Refusal}
use Rattle.distr.specs.Refusals.{number}
use Rattle.distr.specs.Making.{refuse}
use Rattle.distr.specs.Numbers.{first_of}
use Rattle.distr.specs.SamplePolyCbd.{cbd_number, polynomial_of, sample_poly_cbd}
use Rattle.distr.proofs.Refusals.{refuses-eqb}
use Rattle.poly_cbd.specs.Coefficient.{GoodBytes}

-- eta is 2 or 3, and both lengths are right
pub accepted : (eta bytes n : ℕ) → cbd_number eta bytes n ≡ 0 → GoodBytes eta bytes × (n ≡ cbd_coefficients)
unfolding cbd_number first_of
accepted eta bytes n e = go (eqb eta 2) (eqb eta 3) (eqb bytes (64 * eta)) (eqb n cbd_coefficients) refl refl refl refl e
  where
    go : (two three size length : Bool) → eqb eta 2 ≡ two → eqb eta 3 ≡ three → eqb bytes (64 * eta) ≡ size → eqb n cbd_coefficients ≡ length
        → first_of (refuse (not (two || three)) 27 ∷ refuse (not size || not length) 28 ∷ []) ≡ 0 → GoodBytes eta bytes × (n ≡ cbd_coefficients)
    go true three true true p q r s e = ((inl (eqb-true _ _ p), eqb-true _ _ r), eqb-true _ _ s)
    go false true true true p q r s e = ((inr (eqb-true _ _ q), eqb-true _ _ r), eqb-true _ _ s)
    go true three false length p q r s e = absurd (omega arith)
    go true three true false p q r s e = absurd (omega arith)
    go false true false length p q r s e = absurd (omega arith)
    go false true true false p q r s e = absurd (omega arith)
    go false false size length p q r s e = absurd (omega arith)

-- so for an eta that is equal, and another eta than 2 is 3
pub accepted_as : (eta other bytes n : ℕ) → 0 ≡ cbd_number eta bytes n → eta ≡ other → GoodBytes other bytes × (n ≡ cbd_coefficients)
accepted_as eta other bytes n e same = rw (← same) (accepted eta bytes n (sym e))

pub is_three : (eta bytes n : ℕ) → 0 ≡ cbd_number eta bytes n → (eta ≡ 2 → ⊥) → eta ≡ 3
is_three eta bytes n e ne = ⊎_elim (λ two. absurd (ne two)) (λ three. three) (accepted eta bytes n (sym e)).0.0

-- ---- the whole answer: refused, and drawn

pub refused : (eta : ℕ) (B out : List ℕ) (why : Refusal) → number why ≡ cbd_number eta (length B) (length out) → (number why, out) ≡ sample_poly_cbd eta B out
unfolding sample_poly_cbd
refused eta B out why e = rw (← e, refuses-eqb why)

pub drawn : (eta other : ℕ) (B out written : List ℕ) → 0 ≡ cbd_number eta (length B) (length out) → eta ≡ other → written ≡ polynomial_of other B
    → ◌≡◌ {A = ℕ × List ℕ} (0, written) (sample_poly_cbd eta B out)
unfolding sample_poly_cbd
drawn eta other B out written e same w = rw (← e, w, same)
