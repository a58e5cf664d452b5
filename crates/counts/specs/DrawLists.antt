-- A request's draw lists, the words that carry one, and how many of them have a property.
use Rattle.std.specs.Prelude.{ℕ, ◌≤◌, ◌≡◌, ◌⊎◌, Bool, true, false, ◌&&◌, List, [], ◌∷◌, T, ltb, length, drop, replicate}
use Rattle.distr.specs.Words.{got, are_words}
use Rattle.distr.specs.Rule.{Rule}

-- "Its draw lists are all lists of" one entry below each range.
unfoldable pub in_box : List ℕ → List ℕ → Bool
in_box [] [] = true
in_box [] (d ∷ ds) = false
in_box (r ∷ rs) [] = false
in_box (r ∷ rs) (d ∷ ds) = ltb d r && in_box rs ds

-- "Words and a place not past their end carry a draw list if the rules, reading from there, lack no word and use just these draws in this order."
-- `rest` are the words left where the rules stop.
pub record Carries (ρ : Rule) (words : List ℕ) (place : ℕ) (ds rest : List ℕ) : Type 0 where
  pub are_words : T (are_words words)
  pub good_place : place ≤ length words
  pub reads : ρ.draws (drop place words) ≡ got ds rest

-- 02 [3]: a byte string of n bytes, each below 256.
abbrev pub byte_string : ℕ → List ℕ → Bool
byte_string n B = in_box (replicate n 256) B

-- a stands in the list.
unfoldable pub Member : {A : Type 0} → A → List A → Type 0
Member a [] = ⊥
Member a (x ∷ xs) = (a ≡ x) ⊎ Member a xs

-- No element stands twice.
unfoldable pub Distinct : {A : Type 0} → List A → Type 0
Distinct [] = Unit {0}
Distinct (x ∷ xs) = (Member x xs → ⊥) × Distinct xs

-- Exactly N values have P: a list of them without repetition, N long, whose members are the values with P.
pub record Exactly (A : Type 0) (N : ℕ) (P : A → Type 0) : Type 0 where
  pub members : List A
  pub distinct : Distinct members
  pub size : length members ≡ N
  pub sound : (a : A) → Member a members → P a
  pub complete : (a : A) → P a → Member a members
