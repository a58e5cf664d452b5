-- The lines of a text and its tokens, the runs of bytes with spaces between them.
use Rattle.std.specs.Prelude.{ℕ, suc, ◌≤◌, ◌≡◌, Bool, false, not, cond, ◌||◌, List, [], ◌∷◌, eqb, length, take, drop}
use Rattle.residue_text.specs.declared.scan.Kind.{Kind}
use Rattle.residue_text.specs.declared.scan.Kind.TheVariants.{Newline, Space, NoSpace}

-- The byte that ends a line.
abbrev pub is_newline : ℕ → Bool
is_newline b = eqb b 10

-- A space, a tab, a carriage return or a newline.
abbrev pub is_space : ℕ → Bool
is_space b = eqb b 32 || eqb b 9 || eqb b 13 || eqb b 10

-- The bytes that are sought: a newline, a space, or a byte that is no space.
abbrev pub sought : Kind → ℕ → Bool
sought Newline b = is_newline b
sought Space b = is_space b
sought NoSpace b = not (is_space b)

-- How many bytes stand before the first of which p holds: all of them where there is none.
unfoldable pub before : (ℕ → Bool) → List ℕ → ℕ
before p [] = 0
before p (b ∷ bs) = cond (p b) 0 (suc (before p bs))

-- The bytes before the first newline: the whole text where there is none.
abbrev pub first_line : List ℕ → List ℕ
first_line text = take (before is_newline text) text

-- The bytes after the first newline: none where there is none.
abbrev pub after_line : List ℕ → List ℕ
after_line text = drop (suc (before is_newline text)) text

-- Whether a token goes on: a next byte is there and is no space.
unfoldable pub goes_on : List ℕ → Bool
goes_on [] = false
goes_on (b ∷ bs) = not (is_space b)

-- A byte put in front of the first token. (It is asked only where there is one.)
unfoldable pub onto : ℕ → List (List ℕ) → List (List ℕ)
onto b [] = []
onto b (t ∷ ts) = (b ∷ t) ∷ ts

-- The tokens of a text: its runs of bytes that are no spaces, in their order. None of them is empty.
unfoldable pub tokens : List ℕ → List (List ℕ)
tokens [] = []
tokens (b ∷ bs) = cond (is_space b) (tokens bs) (cond (goes_on bs) (onto b (tokens bs)) ((b ∷ []) ∷ tokens bs))

-- Where the first line of a text ends, and where the text after it begins: past the newline, or at the end where there is none.
pub record Lined (text : List ℕ) (end next : ℕ) : Type 0 where
  pub line : take end text ≡ first_line text
  pub inside : end ≤ length text
  pub rest : drop next text ≡ after_line text
  pub within : next ≤ length text
