-- Texts and what is read of them, for the reader: each is computed from the definitions.
use mathlib.Core.Path.{◌≡◌, refl}
use mathlib.Core.List.{List, [], ◌∷◌, map}
use Prim.Native.Nat.{ℕ}
use Rattle.residue_text.specs.Tokens.{before, goes_on, onto, tokens}
use Rattle.decimal.specs.Decimal.{value_from}
use Rattle.residue_text.specs.Numbers.{all_digits, numbers_of}
use Rattle.residue_text.specs.Input.{good, bad, reading, modulus_of, read_rest, read_input}

-- a newline and a space; 48 to 57 are the bytes "0" to "9"
abbrev nl : ℕ
nl = 10

abbrev sp : ℕ
sp = 32

texts : List (List ℕ)
texts =
    -- "17", " 3 08" with a carriage return, an empty line, "16": a good text
    (49 ∷ 55 ∷ nl ∷ sp ∷ 51 ∷ sp ∷ 48 ∷ 56 ∷ 13 ∷ nl ∷ nl ∷ 49 ∷ 54 ∷ [])
    -- "17 4": a second number on the first line
    ∷ (49 ∷ 55 ∷ sp ∷ 52 ∷ nl ∷ [])
    -- "0": no modulus
    ∷ (48 ∷ [])
    -- "17", "3 x": the third number is none
    ∷ (49 ∷ 55 ∷ nl ∷ 51 ∷ sp ∷ 120 ∷ nl ∷ [])
    -- "17", no limits, "1 17": a residue that is not below the modulus, again the third number
    ∷ (49 ∷ 55 ∷ nl ∷ nl ∷ 49 ∷ sp ∷ 49 ∷ 55 ∷ [])
    -- "17", no limits, "1 2 3": no room for the third residue, the fourth number
    ∷ (49 ∷ 55 ∷ nl ∷ nl ∷ 49 ∷ sp ∷ 50 ∷ sp ∷ 51 ∷ [])
    ∷ []

-- in rooms for two limits, which hold 7 at first, and for two residues, which hold 9
readings : map (λ (text : List ℕ). read_input text (7 ∷ 7 ∷ []) (9 ∷ 9 ∷ [])) texts
    ≡ reading (good 17 2 1) (3 ∷ 8 ∷ []) (16 ∷ 9 ∷ [])
    ∷ reading (bad 1 2) (7 ∷ 7 ∷ []) (9 ∷ 9 ∷ [])
    ∷ reading (bad 1 1) (7 ∷ 7 ∷ []) (9 ∷ 9 ∷ [])
    ∷ reading (bad 2 3) (3 ∷ 7 ∷ []) (9 ∷ 9 ∷ [])
    ∷ reading (bad 3 3) (7 ∷ 7 ∷ []) (1 ∷ 9 ∷ [])
    ∷ reading (bad 3 4) (7 ∷ 7 ∷ []) (1 ∷ 2 ∷ [])
    ∷ []
unfolding texts read_input read_rest modulus_of before goes_on onto tokens all_digits value_from numbers_of
readings = refl
