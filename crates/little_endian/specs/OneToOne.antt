-- Coefficients of 64 bits and their bytes go one to one.
use Rattle.std.specs.Prelude.{ℕ, ◌*◌, ◌^◌, ◌<◌, ◌≡◌, List, length, get_or, ℤ, pos, negsuc}
use Rattle.little_endian.specs.LittleEndian.{bytes_of, coefficients_in}

-- A number of 64 bits with a sign: −2^63 to 2^63 − 1.
abbrev pub Is64 : ℤ → Type 0
Is64 (pos m) = m < 2 ^ 63
Is64 (negsuc m) = m < 2 ^ 63

pub record OneToOne : Type 0 where
  -- what was written is read back
  pub read_back : (cs : List ℤ) → ((i : ℕ) → Is64 (get_or cs i (pos 0))) → coefficients_in (bytes_of cs) ≡ cs
  -- and bytes that are a whole number of items are those of some coefficients
  pub written_back : (bytes : List ℕ) (n : ℕ) → length bytes ≡ 8 * n → ((i : ℕ) → get_or bytes i 0 < 256) → bytes_of (coefficients_in bytes) ≡ bytes
