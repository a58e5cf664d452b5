-- What holds of every number of a list.
use mathlib.Core.List.{List, [], ◌∷◌, map}
use Prim.Native.Nat.{ℕ, zero, suc, ◌<◌}
use native.Mathlib.Nat.{not-suc-le-zero, le_of_suc-le-suc}
use lib.ListN.{length, get_or}
use lib.IntN.{ℤ}

pub data Every (P : ℤ → Type 0) : List ℤ → Type 0 where
  none : Every P []
  more : {c : ℤ} {cs : List ℤ} → P c → Every P cs → Every P (c ∷ cs)

module _ {P : ℤ → Type 0} where
  pub every_at : {cs : List ℤ} (d : ℤ) → Every P cs → (i : ℕ) → i < length cs → P (get_or cs i d)
  every_at d none i h = absurd (not-suc-le-zero h)
  every_at d (more p e) zero h = p
  every_at d (more p e) (suc i) h = every_at d e i (le_of_suc-le-suc h)

  pub every_map : (value : ℕ → ℤ) → ((d : ℕ) → P (value d)) → (ds : List ℕ) → Every P (map value ds)
  every_map value h [] = none
  every_map value h (d ∷ ds) = more (h d) (every_map value h ds)
