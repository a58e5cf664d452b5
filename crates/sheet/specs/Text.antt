-- The text of an answer, as bytes: decimal numbers, spaces and newlines.
use Rattle.std.specs.Prelude.{ℕ, suc, Bool, true, false, cond, List, [], ◌∷◌, ◌++◌, eqb, ℤ, pos, negsuc}
use Rattle.decimal.specs.Decimal.{decimal}
use Rattle.distr.specs.Skipped.{Skipped}

-- A byte where it is wanted.
abbrev pub only_if : Bool → ℕ → List ℕ
only_if wanted byte = cond wanted (byte ∷ []) []

-- A minus sign stands before a negative number.
unfoldable pub signed_text : ℤ → List ℕ
signed_text (pos n) = decimal n
signed_text (negsuc n) = 45 ∷ decimal (suc n)

-- A number of a line: a space before it, unless it is the first.
abbrev pub item_text : Bool → ℤ → List ℕ
item_text later v = only_if later 32 ++ signed_text v

-- The numbers of a line, its first or later ones, and the newline after them.
unfoldable pub line_from : Bool → List ℤ → List ℕ
line_from later [] = 10 ∷ []
line_from later (v ∷ vs) = item_text later v ++ line_from true vs

-- A line: numbers with single spaces between them, then a newline; "an empty line" for no numbers.
abbrev pub line : List ℤ → List ℕ
line vs = line_from false vs

-- "Two lines: number, words used, n; then the coefficients (an empty line for n = 0). A refusal prints number, 0, 0 alone."
unfoldable pub answer_text : ℕ → ℕ → ℕ → List ℤ → List ℕ
answer_text number used n coefficients =
    cond (eqb number 0) (line (pos 0 ∷ pos used ∷ pos n ∷ []) ++ line coefficients) (line (pos number ∷ pos 0 ∷ pos 0 ∷ []))

-- 02 [1], for question six: "both sums" on a third line, the words and then the bytes.
abbrev pub skipped_line : Skipped → List ℕ
skipped_line s = line (pos s.words ∷ pos s.bytes ∷ [])

-- A line where it is wanted.
abbrev pub line_if : Bool → List ℕ → List ℕ
line_if wanted bytes = cond wanted bytes []
