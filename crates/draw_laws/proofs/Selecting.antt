-- What a match on a kind, with an arm for each from 1 on and one for 0 last, knows of a number that none of them takes.
use Prim.Native.Nat.{ℕ, zero, suc, ◌<◌}
use native.Mathlib.Omega.{arith}
use mathlib.Core.Path.{◌≡◌}

-- none of 1 to m
abbrev pub NoneTo : ℕ → ℕ → Type 0
NoneTo zero kind = Unit
NoneTo (suc m) kind = NoneTo m kind × (kind ≡ suc m → ⊥)

pub past_kinds : (m kind : ℕ) → NoneTo m kind × (kind ≡ 0 → ⊥) → m < kind
past_kinds zero kind none = omega (arith, none.1)
past_kinds (suc m) kind none = omega (arith, past_kinds m kind (none.0.0, none.1), none.0.1)
