-- 02 [5], "A printed table of trits": what the small program prints, which "works the table out".
use Rattle.std.specs.Prelude.{ℕ, ◌+◌}
use mathlib.Core.List.{List, [], ◌∷◌, flat_map}
use Rattle.packed.specs.TritTable.{trit_table}

-- "Its five digits lowest first with a space between", and then a newline: the text of a group.
unfoldable pub line_of : List ℕ → List ℕ
line_of [] = 10 ∷ []
line_of (d ∷ []) = (48 + d) ∷ 10 ∷ []
line_of (d ∷ e ∷ ds) = (48 + d) ∷ 32 ∷ line_of (e ∷ ds)

-- "One line for each byte from 0 to 242".
unfoldable pub page_text : List ℕ
page_text = flat_map line_of trit_table
