-- Insertion over any kind of value, with the choices read on the way.
use Rattle.std.specs.Prelude.{ℕ, zero, suc, ◌-◌, ◌/◌, ◌%◌, Option, Some, None, List, [], ◌∷◌, ◌++◌, length, get_or, set, drop}
use Rattle.distr.specs.Words.{Read, got, short, map_read, bind_read, word, choose}
use Rattle.fixed_weights.specs.declared.choices.Signing.{Signing}

-- Place s is copied to the new place at the end, and the value is put at s.
unfoldable pub inserted_at : {A : Type 0} → A → List A → ℕ → List A
inserted_at v xs s = set (xs ++ (get_or xs s v ∷ [])) s v

-- The values inserted one after the other, each at a choice among the places there are then.
unfoldable pub insert_all : {A : Type 0} → List A → List A → List ℕ → Read (List A)
insert_all [] xs ws = got xs ws
insert_all (v ∷ vs) xs ws = bind_read (choose (suc (length xs)) ws) (λ s rest. insert_all vs (inserted_at v xs s) rest)

-- A sign bit and a chosen place; then the signs left of the word read last, which are the lowest bits of `rest`, and how many they are.
pub record SignAndPlace : Type 0 where
  pub bit : ℕ
  pub chosen : ℕ
  pub rest : ℕ
  pub fewer : ℕ

-- The lowest of the signs at hand, the lowest `left` bits of w, and then a choice among k.
unfoldable pub lowest_sign_and_place : ℕ → ℕ → ℕ → List ℕ → Read SignAndPlace
lowest_sign_and_place k w left ws = map_read (λ s. record { bit = w % 2; chosen = s; rest = w / 2; fewer = left - 1 }) (choose k ws)

-- The same, and where no sign is left one of a new word: "each 32 signs take a word, read before the choice".
unfoldable pub sign_and_place : ℕ → ℕ → ℕ → List ℕ → Read SignAndPlace
sign_and_place k w zero ws = bind_read (word ws) (λ new rest. lowest_sign_and_place k new 32 rest)
sign_and_place k w (suc left) ws = lowest_sign_and_place k w (suc left) ws

-- A reading of a sign and a place as the functions hand it back: of `word_count` words in all, the place is where those left begin.
unfoldable pub signing : ℕ → Read SignAndPlace → Option Signing
signing word_count (got c rest) =
    Some (record { bit = c.bit; selected = c.chosen; signs = record { word = c.rest; left = c.fewer }; place = word_count - length rest })
signing word_count short = None

-- m signs' values inserted one after the other; the lowest `left` bits of w are the signs at hand.
unfoldable pub insert_signs : {A : Type 0} → (ℕ → A) → ℕ → ℕ → ℕ → List A → List ℕ → Read (List A)
insert_signs value zero w left xs ws = got xs ws
insert_signs value (suc m) w left xs ws =
    bind_read (sign_and_place (suc (length xs)) w left ws) (λ c rest.
    insert_signs value m c.rest c.fewer (inserted_at (value c.bit) xs c.chosen) rest)

-- Where an insertion into xs stopped, as the functions hand it back: the words left begin at the place, or one was missing.
unfoldable pub stopped : {A : Type 0} → Option ℕ → List A → List ℕ → Read (List A)
stopped (Some next) xs ws = got xs (drop next ws)
stopped None xs ws = short
