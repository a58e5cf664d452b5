-- What a draw by a table does for each rule whose values the table holds.
use Rattle.std.specs.Prelude.{ℕ, ◌<◌, ◌≡◌, List, map, length, ℤ, pos}
use Rattle.distr.specs.Packed.{packed}
use Rattle.distr.specs.Draw.{Outcome, rule_draw}

-- Where the entries, and z for 0, are what the output holds of a rule's values, the answer is the rule's draw out of m words.
pub record DrawsByTable {A : Type 0} (z : A) (entry : ℕ → A) (base each m : ℕ) (words : List ℕ) (place : ℕ) (out : List A) (o : Outcome A) : Type 0 where
  pub draws : (write : List ℤ → List A) (f : ℤ → A) (value : ℕ → ℤ) → ((cs : List ℤ) → write cs ≡ map f cs)
      → z ≡ f (pos 0) → ((d : ℕ) → d < base → entry d ≡ f (value d))
      → o ≡ rule_draw write 0 (packed base each m (length out) value) words place out
