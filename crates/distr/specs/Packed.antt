-- Draws packed into words, lowest first: uniform binary, sparse ternary, and the signs of a full-weight ternary key.
use Rattle.std.specs.Prelude.{ℕ, zero, suc, ◌+◌, ◌/◌, ◌%◌, cond, List, [], ◌∷◌, ◌++◌, map, ltb, eqb, take, replicate, ℤ, pos, negsuc}
use Rattle.distr.specs.Words.{map_read, many, word}
use Rattle.distr.specs.Skipped.{nothing}
use Rattle.distr.specs.Rule.{Rule}

-- The lowest `size` digits of x in a base, lowest first: bits, two-bit groups, bytes and base-3 digits.
unfoldable pub digits : ℕ → ℕ → ℕ → List ℕ
digits base zero x = []
digits base (suc size) x = x % base ∷ digits base size (x / base)

-- The digits of each number in turn.
unfoldable pub split : ℕ → ℕ → List ℕ → List ℕ
split base size [] = []
split base size (x ∷ xs) = digits base size x ++ split base size xs

-- n draws below `base`, `each` of them a word, out of m words; "left-over bits of a shared 32-bit word, are no draws".
abbrev pub packed : ℕ → ℕ → ℕ → ℕ → (ℕ → ℤ) → Rule
packed base each m n value = record {
  ranges = replicate n base;
  draws = λ ws. map_read (λ xs. take n (split base each xs)) (many word m ws);
  decode = map value;
  skips = λ ws. nothing;
}

abbrev pub minus_one : ℤ
minus_one = negsuc 0

-- "Uniform binary: 32 bits a word, lowest first. ⌊n/32⌋+1 words are read, also for n = 0."
abbrev pub uniform_binary : ℕ → Rule
uniform_binary n = packed 2 32 (n / 32 + 1) n pos

-- Sparse ternary: "0 and 1 give 0, 2 gives 1, 3 gives −1."
abbrev pub sparse_value : ℕ → ℤ
sparse_value d = cond (ltb d 2) (pos 0) (cond (eqb d 2) (pos 1) minus_one)

-- "16 two-bit draws a word."
abbrev pub sparse_ternary : ℕ → Rule
sparse_ternary n = packed 4 16 ((n + 15) / 16) n sparse_value

-- "Sign bit 1 for 1, 0 for −1."
abbrev pub sign_value : ℕ → ℤ
sign_value b = cond (eqb b 1) (pos 1) minus_one

-- "With h = n only signs are read"; "each 32 signs take a word".
abbrev pub signs_alone : ℕ → Rule
signs_alone n = packed 2 32 ((n + 31) / 32) n sign_value
