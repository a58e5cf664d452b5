-- A draw over another output of the same length: the same number and place, and what it writes is held in the other way; where it writes nothing, the
-- output is as it was.
use mathlib.Core.Path.{◌≡◌, refl, ap}
use mathlib.Core.Bool.{Bool, true, false, cond}
use mathlib.Core.List.{List, ◌++◌}
use Prim.Native.Nat.{ℕ}
use borrow.Author.Tests.{eqb-true, ne_eqb}
use lib.Dec.{eqb}
use lib.ListN.{length, drop}
use lib.IntN.{ℤ}
use Rattle.distr.specs.Words.{Read, got, short}
use Rattle.distr.specs.Distribution.{Distr, Tables, coefficients}
use Rattle.distr.specs.Numbers.{first_of, state_numbers, signed_numbers, table_index}
use Rattle.distr.specs.Draw.{Outcome, settled, judged, drawn, held_over, naming, signed_draw}
use Rattle.draw_laws.proofs.Small.{signed_apart, state_apart}

module _ {A B : Type 0} (hold : List A → List B) where
  pub judged-held : (k place : ℕ) (out : List A) (out' : List B) (x : Outcome A) (x' : Outcome B) → (k ≡ 23 → ⊥)
      → (k ≡ 0 → x' ≡ held_over hold out' x) → judged k place out' x' ≡ held_over hold out' (judged k place out x)
  unfolding judged
  judged-held k place out out' x x' apart same = go (eqb k 0) refl
    where
      go : (b : Bool) → eqb k 0 ≡ b
          → cond b x' (record { number = k; place = place; index = 0; output = out' }) ≡ held_over hold out' (cond b x (record { number = k; place = place; index = 0; output = out }))
      go true e = same (eqb-true k 0 e)
      go false e = rw (e, ne_eqb k 23 apart)

  pub settled-held : (write : List ℤ → List A) (word_count place n : ℕ) (out' : List B) (read : Read (List ℤ))
      → settled (λ cs. hold (write cs)) word_count place n read ≡ held_over hold out' (settled write word_count place n read)
  unfolding settled
  settled-held write word_count place n out' (got cs rest) = refl
  settled-held write word_count place n out' short = refl

  pub drawn-held : (write : List ℤ → List A) (numbers words : List ℕ) (place : ℕ) (out : List A) (out' : List B) (n : ℕ) (rules : List ℕ → Read (List ℤ))
      → (first_of numbers ≡ 23 → ⊥)
      → drawn (λ cs. hold (write cs)) numbers words place out' n rules ≡ held_over hold out' (drawn write numbers words place out n rules)
  drawn-held write numbers words place out out' n rules apart =
      judged-held (first_of numbers) place out out' _ _ apart (λ z. settled-held write (length words) place n out' (rules (drop place words)))

-- so a signed draw goes by its output's length alone
pub signed-held : (d : Distr) (tables : Tables) (words : List ℕ) (place : ℕ) (out out' : List ℤ) → length out' ≡ length out
    → signed_draw true d tables words place out' ≡ held_over (λ cs. cs) out' (signed_draw true d tables words place out)
unfolding signed_draw
signed-held d tables words place out out' e =
    rw e
    (ap (naming (table_index d tables))
    (drawn-held (λ cs. cs) (λ cs. cs) (state_numbers true (length words) place ++ signed_numbers d tables (length out)) words place out out'
    (length out) (coefficients d (length out) tables)
    (state_apart true (length words) place (signed_numbers d tables (length out)) (signed_apart d tables (length out)).1)))
