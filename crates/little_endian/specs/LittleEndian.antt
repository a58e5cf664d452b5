-- Words and coefficients as bytes, the lowest first: a sheet's words (01), and what crosses the desk's entry (02 [4]).
use Rattle.std.specs.Prelude.{ℕ, zero, suc, ◌+◌, ◌*◌, ◌/◌, ◌^◌, true, List, [], ◌∷◌, map, length, get_or, ℤ}
use Rattle.distr.specs.Packed.{split}
use Rattle.distr.specs.Encoding.{encode}
use Rattle.little_endian.specs.Patterns.{value_of}

-- The little-endian u32 that begins at a byte.
unfoldable pub u32_at : List ℕ → ℕ → ℕ
u32_at bytes i = get_or bytes i 0 + get_or bytes (i + 1) 0 * 2 ^ 8 + get_or bytes (i + 2) 0 * 2 ^ 16 + get_or bytes (i + 3) 0 * 2 ^ 24

-- `count` words from a byte on, wherever it stands.
unfoldable pub words_at : List ℕ → ℕ → ℕ → List ℕ
words_at bytes i zero = []
words_at bytes i (suc count) = u32_at bytes i ∷ words_at bytes (i + 4) count

-- 02 [4]: "Words and coefficients cross as little-endian bytes, four to a word and eight to a coefficient": the words of all bytes.
abbrev pub words_in : List ℕ → List ℕ
words_in bytes = words_at bytes 0 (length bytes / 4)

-- The bytes of coefficients: eight for each, those of its residue modulo 2^64, so that −m is 2^64 − m.
abbrev pub bytes_of : List ℤ → List ℕ
bytes_of cs = split 256 8 (map (encode (2 ^ 64)) cs)

-- And back: `count` coefficients from a byte on, and those of all bytes.
unfoldable pub coefficients_at : List ℕ → ℕ → ℕ → List ℤ
coefficients_at bytes i zero = []
coefficients_at bytes i (suc count) = value_of true (u32_at bytes i + u32_at bytes (i + 4) * 2 ^ 32) ∷ coefficients_at bytes (i + 8) count

abbrev pub coefficients_in : List ℕ → List ℤ
coefficients_in bytes = coefficients_at bytes 0 (length bytes / 8)
