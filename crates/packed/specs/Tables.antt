-- The tables of a draw of trits.
use Rattle.std.specs.Prelude.{ℕ, ◌+◌, ◌*◌, ◌/◌, ◌%◌, ◌<◌, ◌≡◌, List, length, get_or}
use Rattle.std.specs.Coded.{Coded, Coded-set, coded_ℕ, coded_list, le_prop, ×_prop, Π_prop}
use mathlib.Core.Path.{ap₂}
use Rattle.packed.specs.Pairs.{digit_value, Paired}
use Rattle.packed.specs.TritTable.{kept_table}

-- The pairs of their values, and the groups of the bytes.
pub record TritTables {A : Type 0} (z : A) (pairs : List A) (groups : List ℕ) : Type 0 where
  pub paired : Paired 3 z pairs
  pub kept : groups ≡ kept_table

-- There is one proof of it at most.
module _ {A : Type 0} (code : Coded A) (z : A) (pairs : List A) where
  abbrev Held : ℕ → (ℕ → ℕ) → (ℕ → ℕ) → Type 0
  Held base at digit = (q : ℕ) → q < base * base → get_or pairs (at q) z ≡ digit_value z pairs (digit q)

  Held-prop : (base : ℕ) (at digit : ℕ → ℕ) → IsProp (Held base at digit)
  Held-prop base at digit = Π_prop (λ q. Π_prop (λ h. Coded-set code _ _))

  Paired-prop : (base : ℕ) → IsProp (Paired base z pairs)
  Paired-prop base x y =
      ap₂ (λ (p : (0 < base) × (length pairs ≡ base * base * 2)) (v : Held base (λ q. q * 2) (λ q. q % base) × Held base (λ q. q * 2 + 1) (λ q. q / base)).
      record { positive = p.0; sized = p.1; low = v.0; high = v.1 })
      (×_prop le_prop (Coded-set coded_ℕ _ _) (x.positive, x.sized) (y.positive, y.sized))
      (×_prop (Held-prop base (λ q. q * 2) (λ q. q % base)) (Held-prop base (λ q. q * 2 + 1) (λ q. q / base)) (x.low, x.high) (y.low, y.high))

  pub TritTables-prop : (groups : List ℕ) → IsProp (TritTables z pairs groups)
  TritTables-prop groups x y =
      ap₂ (λ (p : Paired 3 z pairs) (k : groups ≡ kept_table). record { paired = p; kept = k })
      (Paired-prop 3 x.paired y.paired) (Coded-set (coded_list coded_ℕ) _ _ x.kept y.kept)
