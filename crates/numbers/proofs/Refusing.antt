-- A draw by its number: refused, or settled by what its rules read. Its own number is one of a length, a weight or a table.
use mathlib.Core.Path.{◌≡◌, sym, ◌∙◌}
use mathlib.Core.List.{List, [], ◌∷◌}
use Prim.Native.Nat.{ℕ, ◌≤◌}
use borrow.Author.Tests.{ltb-false, ne_eqb}
use lib.ListN.{length, drop}
use lib.IntN.{ℤ}
use Rattle.distr.specs.Words.{Read}
use Rattle.distr.specs.Numbers.{first_of, past_end, too_long}
use Rattle.distr.specs.Rule.{Rule, read_by}
use Rattle.distr.specs.Draw.{settled, judged, read_draw, rule_draw}
use Rattle.distr.proofs.Drawing.{first-passed, not-refused}

-- The number of a draw of n coefficients from a place of `count` words.
abbrev pub draw_number : ℕ → ℕ → ℕ → ℕ → ℕ
draw_number count place n own = first_of (past_end count place ∷ too_long n ∷ own ∷ [])

-- by what the draw's own number is
pub number_by : (count place n own own' : ℕ) {k : ℕ} → own ≡ own' → k ≡ draw_number count place n own → k ≡ draw_number count place n own'
number_by count place n own own' same e = rw (← same) e

-- 0 says that the place, the length and what the draw judges itself are good
pub number_passed : (count place n own : ℕ) {k : ℕ} → k ≡ draw_number count place n own → k ≡ 0 → (place ≤ count) × (n ≤ 65536) × (own ≡ 0)
number_passed count place n own e z =
    let a = first-passed (past_end count place) (too_long n ∷ own ∷ []) (sym e ∙ z) in
    let b = first-passed (too_long n) (own ∷ []) a.1 in
    (ltb-false count place (not-refused _ 21 a.0), ltb-false 65536 n (not-refused _ 5 b.0), (first-passed own [] b.1).0)

module _ {A : Type 0} (write : List ℤ → List A) (own : ℕ) (words : List ℕ) (place : ℕ) (out : List A) {k : ℕ}
    (e : k ≡ draw_number (length words) place (length out) own) where
  -- another number changes nothing
  pub read_refused : (rules : List ℕ → Read (List ℤ)) → (k ≡ 0 → ⊥)
      → record { number = k; place = place; index = 0; output = out } ≡ read_draw write own rules words place out
  unfolding judged
  read_refused rules ne = rw (← e, ne_eqb k 0 ne)

  pub read_passed : (rules : List ℕ → Read (List ℤ)) → k ≡ 0
      → settled write (length words) place (length out) (rules (drop place words)) ≡ read_draw write own rules words place out
  unfolding judged
  read_passed rules z = rw (← e, z)

  -- the same of a draw by one rule
  pub rule-refused : (rule : Rule) → (k ≡ 0 → ⊥) → record { number = k; place = place; index = 0; output = out } ≡ rule_draw write own rule words place out
  unfolding rule_draw
  rule-refused rule = read_refused (read_by rule)

  pub rule-passed : (rule : Rule) → k ≡ 0
      → settled write (length words) place (length out) (read_by rule (drop place words)) ≡ rule_draw write own rule words place out
  unfolding rule_draw
  rule-passed rule = read_passed (read_by rule)
