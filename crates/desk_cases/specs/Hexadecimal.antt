-- Bytes in lower-case hexadecimal, two digits a byte, and `-` for none: written, and read.
use Rattle.std.specs.Prelude.{◌≡◌, ℕ, ◌+◌, ◌-◌, ◌*◌, ◌/◌, ◌%◌, ◌≤◌, Bool, true, cond, not, ◌&&◌, ◌||◌, List, [], ◌∷◌, length, take, ◌==◌, nat_le, nat_lt, slice_index}

-- The digit of a number below 16.
abbrev pub digit : ℕ → ℕ
digit v = cond (nat_lt v 10) (48 + v) (87 + v)

-- The digits of bytes, the higher one of each first.
unfoldable pub hex : List ℕ → List ℕ
hex [] = []
hex (b ∷ bs) = digit (b / 16) ∷ digit (b % 16) ∷ hex bs

-- The field of bytes: their digits, or `-` for none.
unfoldable pub shown : List ℕ → List ℕ
shown [] = 45 ∷ []
shown (b ∷ bs) = hex (b ∷ bs)

-- The bytes of `0` to `9` and of `a` to `f`.
abbrev pub is_digit : ℕ → Bool
is_digit c = (nat_le 48 c && nat_le c 57) || (nat_le 97 c && nat_le c 102)

-- The value of a digit. (Of another byte it is some number below 16.)
abbrev pub value_of : ℕ → ℕ
value_of c = cond (nat_le 97 c) ((c - 87) % 16) ((c - 48) % 16)

-- Whether every byte is a digit.
unfoldable pub all_digits : List ℕ → Bool
all_digits [] = true
all_digits (c ∷ cs) = is_digit c && all_digits cs

-- The bytes that digits stand for, two digits each. One that is left over stands for none, and so does `-`.
unfoldable pub bytes_in : List ℕ → List ℕ
bytes_in [] = []
bytes_in (c ∷ []) = []
bytes_in (c ∷ d ∷ cs) = (value_of c * 16 + value_of d) ∷ bytes_in cs

-- Whether a text is of no length for pairs of digits, or for more than so many.
abbrev pub unfit : ℕ → List ℕ → Bool
unfit most text = length text / 2 == 0 || not (length text % 2 == 0) || nat_lt most (length text / 2)

-- Whether a field stands for bytes, at most so many: `-`, or digits in pairs, one pair or more.
unfoldable pub is_field : ℕ → List ℕ → Bool
is_field most text = cond (length text == 1) (slice_index text 0 == 45) (not (unfit most text) && all_digits text)

-- A front of so many bytes lies within a text, and has that length.
abbrev pub IsPrefixLen : ℕ → List ℕ → Type 0
IsPrefixLen n text = (n ≤ length text) × (n ≡ length (take n text))

-- What reading a field hands back, in a room for so many bytes: whether it is one, and how many bytes of it stand at the start of the room.
pub record Read (text : List ℕ) (most : ℕ) (good : Bool) (count : ℕ) (room : List ℕ) : Type 0 where
  pub judged : good ≡ is_field most text
  pub bytes : take count room ≡ cond (is_field most text) (bytes_in text) []
  pub inside : count ≤ length room
  pub counted : count ≡ length (take count room)
