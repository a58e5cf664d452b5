-- 02 [2]: what is summed and counted, the centered values of the residues.
use Rattle.std.specs.Prelude.{ℕ, ◌+◌, ◌*◌, ◌/◌, Bool, true, cond, ◌&&◌, List, [], ◌∷◌, map, ℤ, pos, ◌+ℤ◌, ◌-ℤ◌, nat_le, nat_lt, unsigned_abs}

-- "A residue is centered as in `to_centered`: up to half the modulus, rounded down, it is itself"; above, it is less the modulus.
unfoldable pub centered : ℕ → ℕ → ℤ
centered modulus residue = cond (nat_le residue (modulus / 2)) (pos residue) (pos residue -ℤ pos modulus)

-- "The centered values."
abbrev pub centered_all : ℕ → List ℕ → List ℤ
centered_all modulus residues = map (centered modulus) residues

-- "The exact sum of the centered values."
unfoldable pub sum_of : List ℤ → ℤ
sum_of [] = pos 0
sum_of (v ∷ vs) = v +ℤ sum_of vs

-- "The exact sum of their squares."
unfoldable pub squares_of : List ℤ → ℕ
squares_of [] = 0
squares_of (v ∷ vs) = unsigned_abs v * unsigned_abs v + squares_of vs

-- "For each limit how many magnitudes do not exceed it": of one limit.
unfoldable pub how_many_within : ℕ → List ℤ → ℕ
how_many_within limit [] = 0
how_many_within limit (v ∷ vs) = cond (nat_le (unsigned_abs v) limit) 1 0 + how_many_within limit vs

-- Whether each residue is below the modulus.
unfoldable pub all_below : ℕ → List ℕ → Bool
all_below modulus [] = true
all_below modulus (r ∷ rs) = nat_lt r modulus && all_below modulus rs
