-- The decimal text of a number, as bytes, what digits say, and where a writer puts them.
use Rattle.std.specs.Prelude.{ℕ, zero, suc, ◌+◌, ◌*◌, ◌-◌, ◌/◌, ◌%◌, ◌≤◌, ◌≡◌, List, [], ◌∷◌, ◌++◌, length, take, drop}

-- The byte of the last decimal digit.
abbrev pub last_digit : ℕ → ℕ
last_digit n = 48 + n % 10

-- The decimal digits of n, highest first and no 0 before them, so none for 0. The first argument bounds their count.
unfoldable pub digits_of : ℕ → ℕ → List ℕ
digits_of zero n = []
digits_of (suc more) zero = []
digits_of (suc more) (suc n) = digits_of more (suc n / 10) ++ (last_digit (suc n) ∷ [])

-- A number in decimal; 0 is "0". (It has no more than n digits before the last one.)
unfoldable pub decimal : ℕ → List ℕ
decimal n = digits_of n (n / 10) ++ (last_digit n ∷ [])

-- The number that digits say after those of the number v: each makes it ten times as much, and adds its own value.
unfoldable pub value_from : ℕ → List ℕ → ℕ
value_from v [] = v
value_from v (b ∷ bs) = value_from (v * 10 + (b - 48)) bs

-- What stands in a room after elements were put at its start: the rest of it is as it was.
abbrev pub front : List ℕ → List ℕ → List ℕ
front elements room = elements ++ drop (length elements) room

-- Bytes at the start of a room, and how many they are.
abbrev pub at_front : List ℕ → List ℕ → ℕ × List ℕ
at_front bytes room = (length bytes, front bytes room)

-- A count of bytes at the start of others. The second part follows from the first: with both, a caller that takes these bytes has nothing to prove.
abbrev pub Counts : ℕ → List ℕ → Type 0
Counts n bytes = (n ≤ length bytes) × (n ≡ length (take n bytes))
