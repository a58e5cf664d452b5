-- The numbers that tokens stand for, and where they are put.
use Rattle.std.specs.Prelude.{ℕ, zero, suc, Bool, true, cond, ◌&&◌, List, [], ◌∷◌, Option, Some, None, leb, ltb, length}
use Rattle.decimal.specs.Decimal.{value_from}
use Rattle.residue_text.specs.Tokens.{tokens}
use Rattle.residue_text.specs.declared.numbers.Numbers.{Numbers}

-- The bytes "0" to "9".
abbrev pub is_digit : ℕ → Bool
is_digit b = leb 48 b && leb b 57

-- Whether every byte is a digit.
unfoldable pub all_digits : List ℕ → Bool
all_digits [] = true
all_digits (b ∷ bs) = is_digit b && all_digits bs

-- The value of a token.
abbrev pub value_of : List ℕ → ℕ
value_of token = value_from 0 token

-- Whether a token, which is never empty, is a whole number of at most `most`. Leading zeros are allowed.
abbrev pub is_number : ℕ → List ℕ → Bool
is_number most token = all_digits token && leb (value_of token) most

-- What reading a token hands back: its value, where it is such a number.
abbrev pub number_of : ℕ → List ℕ → Option ℕ
number_of most token = cond (is_number most token) (Some (value_of token)) None

-- The numbers of tokens up to the first that is none, and no more of them than there is room for.
unfoldable pub numbers_of : ℕ → ℕ → List (List ℕ) → List ℕ
numbers_of zero most ts = []
numbers_of (suc room) most [] = []
numbers_of (suc room) most (t ∷ ts) = cond (is_number most t) (value_of t ∷ numbers_of room most ts) []

-- The numbers of a text, no more of them than a room has elements.
abbrev pub numbers_in : ℕ → List ℕ → List ℕ → List ℕ
numbers_in most text room = numbers_of (length room) most (tokens text)

-- Whether a text has more tokens than were read as numbers.
abbrev pub left_over : List ℕ → List ℕ → Bool
left_over numbers text = ltb (length numbers) (length (tokens text))

-- What reading the numbers of a text hands back: how many were read, and whether a token is left over.
abbrev pub numbers_read : List ℕ → List ℕ → Numbers
numbers_read numbers text = record { count = length numbers; more = left_over numbers text }
