-- Values looked up two digits at a time.
use Rattle.std.specs.Prelude.{ℕ, ◌+◌, ◌*◌, ◌/◌, ◌%◌, ◌<◌, ◌≡◌, List, [], ◌∷◌, ◌++◌, map, length, get_or, set}

-- Each low value with one high value after it.
abbrev pub row_of : {A : Type 0} → A → List A → List A
row_of high [] = []
row_of high (low ∷ lows) = low ∷ high ∷ row_of high lows

-- The rows of all high values.
abbrev pub rows_of : {A : Type 0} → List A → List A → List A
rows_of [] lows = []
rows_of (high ∷ highs) lows = row_of high lows ++ rows_of highs lows

-- The table of pairs of a table of values: the pair of two digits is what both stand for, the low digit first.
abbrev pub pairs_of : {A : Type 0} → List A → List A
pairs_of values = rows_of values values

-- What a digit stands for: the first of its pair with a high digit 0; z past the table's end.
abbrev pub digit_value : {A : Type 0} → A → List A → ℕ → A
digit_value z pairs d = get_or pairs (d * 2) z

abbrev pub digit_values : {A : Type 0} → A → List A → List ℕ → List A
digit_values z pairs ds = map (digit_value z pairs) ds

-- A table of pairs of digits below a base.
pub record Paired {A : Type 0} (base : ℕ) (z : A) (pairs : List A) : Type 0 where
  pub positive : 0 < base
  pub sized : length pairs ≡ base * base * 2
  pub low : (q : ℕ) → q < base * base → get_or pairs (q * 2) z ≡ digit_value z pairs (q % base)
  pub high : (q : ℕ) → q < base * base → get_or pairs (q * 2 + 1) z ≡ digit_value z pairs (q / base)

-- The output with the pair stored that stands at i.
abbrev pub pair_set : {A : Type 0} → A → List A → List A → ℕ → ℕ → List A
pair_set z pairs out at i = set (set out at (get_or pairs i z)) (at + 1) (get_or pairs (i + 1) z)
