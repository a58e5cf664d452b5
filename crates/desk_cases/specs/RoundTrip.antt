-- Bytes and their fields go one to one.
use Rattle.std.specs.Prelude.{◌≡◌, ℕ, ◌<◌, ◌≤◌, true, List, length, slice_index}
use Rattle.desk_cases.specs.Hexadecimal.{shown, bytes_in, is_field}

pub record RoundTrip : Type 0 where
  -- a field is that of the bytes that are read from it
  pub written_back : (most : ℕ) (text : List ℕ) → is_field most text ≡ true → shown (bytes_in text) ≡ text
  -- bytes are those that are read from their field
  pub read_back : (bytes : List ℕ) → ((i : ℕ) → slice_index bytes i < 256) → bytes_in (shown bytes) ≡ bytes
  -- and their field is one
  pub is_field : (most : ℕ) (bytes : List ℕ) → ((i : ℕ) → slice_index bytes i < 256) → length bytes ≤ most → is_field most (shown bytes) ≡ true
