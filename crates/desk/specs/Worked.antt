-- Answers of the desk worked out by hand from the sentences of 02 [4] and the rules of 01, as two tables: what is given, and what it is.
use Rattle.std.specs.Prelude.{ℕ, List, [], ◌∷◌, ◌++◌, replicate}
use Rattle.distr.specs.Case.{Case}
use Rattle.desk.specs.Desk.{DeskAnswer, desk_answer, desk_number, desk_draw}

-- By the bytes of the words and of the output: exactly 8,192 words and 4,096 coefficients pass.
unfoldable pub worked_numbers : List (Case ℕ)
worked_numbers =
    record { given = desk_number 0 0; stated = 0 }
    ∷ record { given = desk_number 32768 32768; stated = 0 }
    -- one word or one coefficient more, and every length that is no whole number of items
    ∷ record { given = desk_number 32772 32768; stated = 29 }
    ∷ record { given = desk_number 32768 32776; stated = 29 }
    ∷ record { given = desk_number 4 33; stated = 29 }
    ∷ record { given = desk_number 4 36; stated = 29 }
    ∷ record { given = desk_number 6 32; stated = 29 }
    ∷ []

-- The word 228, whose groups of two bits are 0, 1, 2 and 3, lowest first: sparse ternary gives 0, 0, 1 and −1.
abbrev pub word_bytes : List ℕ
word_bytes = 228 ∷ 0 ∷ 0 ∷ 0 ∷ []

-- The bytes of four coefficients, before a call.
abbrev pub held : List ℕ
held = replicate 32 9

-- Whole calls: kind, A, B, modulus, words, place, output.
unfoldable pub worked_answers : List (Case DeskAnswer)
worked_answers =
    -- signed: −1 is eight bytes 255
    record {
      given = desk_draw 2 0 0 0 word_bytes 0 held;
      stated = desk_answer 0 1 0 0 (replicate 16 0 ++ (1 ∷ replicate 7 0) ++ replicate 8 255);
    }
    -- residues modulo 3329: −1 is 3328, which is 13 × 256
    ∷ record {
      given = desk_draw 2 0 0 3329 word_bytes 0 held;
      stated = desk_answer 0 1 0 0 (replicate 16 0 ++ (1 ∷ replicate 7 0) ++ (0 ∷ 13 ∷ replicate 6 0));
    }
    -- 29 comes before 14, and 14 before the place
    ∷ record { given = desk_draw 0 0 0 0 word_bytes 5 (replicate 31 9); stated = desk_answer 29 5 0 0 (replicate 31 9) }
    ∷ record { given = desk_draw 0 0 0 0 word_bytes 5 held; stated = desk_answer 14 5 0 0 held }
    -- making comes before 22, 22 before 7, and 7 before 9
    ∷ record { given = desk_draw 9 33 0 0 word_bytes 5 held; stated = desk_answer 4 5 0 0 held }
    ∷ record { given = desk_draw 4 5 0 1 word_bytes 5 held; stated = desk_answer 22 5 0 0 held }
    ∷ record { given = desk_draw 4 5 0 1 word_bytes 1 held; stated = desk_answer 7 1 0 0 held }
    ∷ record { given = desk_draw 4 4 0 1 word_bytes 1 held; stated = desk_answer 9 1 0 0 held }
    -- no word is left: the place stays, and zeros are written
    ∷ record { given = desk_draw 2 0 0 0 word_bytes 1 held; stated = desk_answer 23 1 0 0 (replicate 32 0) }
    -- no coefficients are a request too: uniform binary reads a word for them, sparse ternary none
    ∷ record { given = desk_draw 1 0 0 0 word_bytes 0 []; stated = desk_answer 0 1 0 0 [] }
    ∷ record { given = desk_draw 2 0 0 0 [] 0 []; stated = desk_answer 0 0 0 0 [] }
    ∷ []
