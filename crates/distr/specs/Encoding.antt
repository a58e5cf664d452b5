-- Residues: one modulus, several (CRT), and the row of one of them.
use Rattle.std.specs.Prelude.{ℕ, suc, ◌*◌, ◌-◌, Bool, cond, ◌&&◌, List, [], ◌∷◌, ◌++◌, map, ltb, eqb, length, take, drop, ℤ, pos, negsuc}

-- "−m becomes modulus − m, zero stays 0."
abbrev pub encode : ℕ → ℤ → ℕ
encode modulus (pos m) = m
encode modulus (negsuc m) = modulus - suc m

-- A coefficient by the caller's encoding of −1, as `modulus_minus_one` is in the Rust: `minus` is modulus − 1, so that −m is `minus` less m − 1.
abbrev pub encode_with : ℕ → ℤ → ℕ
encode_with minus (pos m) = m
encode_with minus (negsuc m) = minus - m

-- "CRT row i, column c is at i × coefficients + c": a row of residues for each modulus.
unfoldable pub rows : List ℕ → List ℤ → List ℕ
rows [] cs = []
rows (modulus ∷ moduli) cs = map (encode modulus) cs ++ rows moduli cs

-- Whether an output of n elements has the shape of coefficients × moduli, and a row of this number.
abbrev pub has_row : ℕ → ℕ → ℕ → ℕ → Bool
has_row n coefficient_count moduli i = eqb n (coefficient_count * moduli) && ltb i moduli

-- "The row of one modulus is handed back as that part of the output; a row number out of range, or a wrong shape, gives the empty part at
-- its start": the index at which the part starts, and what stands in it.
abbrev pub row_start : ℕ → ℕ → ℕ → ℕ → ℕ
row_start n coefficient_count moduli i = cond (has_row n coefficient_count moduli i) (i * coefficient_count) 0

abbrev pub row : List ℕ → ℕ → ℕ → ℕ → List ℕ
row output coefficient_count moduli i =
    cond (has_row (length output) coefficient_count moduli i) (take coefficient_count (drop (i * coefficient_count) output)) []
