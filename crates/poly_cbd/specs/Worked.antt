-- Coefficients and answers worked out by hand from the standard's text and the sentences of 02 [3], as two tables: what is given, and what it is.
use Rattle.std.specs.Prelude.{ℕ, List, [], ◌∷◌, ◌++◌, replicate}
use Rattle.distr.specs.Case.{Case}
use Rattle.distr.specs.SamplePolyCbd.{coefficient_of, sample_poly_cbd}

-- Coefficient i of a byte string; bytes that are not written are 0.
unfoldable pub worked_coefficients : List (Case ℕ)
worked_coefficients =
    -- eta 2: a coefficient has half a byte, the low half first. 199 is 12 × 16 + 7; 7 has the bits 1, 1, 1, 0, and 2 − 1 is 1
    record { given = coefficient_of 2 (199 ∷ []) 0; stated = 1 }
    -- 12 has the bits 0, 0, 1, 1, and 0 − 2 is 3327
    ∷ record { given = coefficient_of 2 (199 ∷ []) 1; stated = 3327 }
    -- 4 has the bits 0, 0, 1, 0: −1 is 3328
    ∷ record { given = coefficient_of 2 (4 ∷ []) 0; stated = 3328 }
    -- 15 has four ones: 2 − 2 is 0
    ∷ record { given = coefficient_of 2 (15 ∷ []) 0; stated = 0 }
    -- eta 3: coefficient 0 has the bits 0 to 5 of the first byte. 7 has three ones in the first sum, 56 in the second
    ∷ record { given = coefficient_of 3 (7 ∷ []) 0; stated = 3 }
    ∷ record { given = coefficient_of 3 (56 ∷ []) 0; stated = 3326 }
    -- coefficient 1 has bits 6 and 7 of the first byte and bits 0 to 3 of the second: 192 and 1 give x = 3, 0 and 14 give y = 3
    ∷ record { given = coefficient_of 3 (192 ∷ 1 ∷ []) 1; stated = 3 }
    ∷ record { given = coefficient_of 3 (0 ∷ 14 ∷ []) 1; stated = 3326 }
    -- coefficient 2 has bits 4 to 7 of the second byte and bits 0 and 1 of the third: 112 gives x = 3, 128 and 3 give y = 3
    ∷ record { given = coefficient_of 3 (0 ∷ 112 ∷ []) 2; stated = 3 }
    ∷ record { given = coefficient_of 3 (0 ∷ 128 ∷ 3 ∷ []) 2; stated = 3326 }
    -- the last coefficient has the last bits: of 192 bytes the bits 2 to 7 of the last, of which 224 sets the upper three
    ∷ record { given = coefficient_of 3 (replicate 191 0 ++ (224 ∷ [])) 255; stated = 3326 }
    ∷ []

-- Whole calls, with an output of 9 throughout.
unfoldable pub worked_answers : List (Case (ℕ × List ℕ))
worked_answers =
    -- 27 comes before 28
    record { given = sample_poly_cbd 4 [] (9 ∷ []); stated = (27, 9 ∷ []) }
    ∷ record { given = sample_poly_cbd 1 (replicate 64 0) (replicate 256 9); stated = (27, replicate 256 9) }
    -- the bytes of another eta, and one coefficient too few or too many
    ∷ record { given = sample_poly_cbd 2 (replicate 192 0) (replicate 256 9); stated = (28, replicate 256 9) }
    ∷ record { given = sample_poly_cbd 3 (replicate 192 0) (replicate 255 9); stated = (28, replicate 255 9) }
    ∷ record { given = sample_poly_cbd 3 (replicate 192 0) (replicate 257 9); stated = (28, replicate 257 9) }
    -- zeros give zeros, and so do ones: 3 − 3
    ∷ record { given = sample_poly_cbd 2 (replicate 128 0) (replicate 256 9); stated = (0, replicate 256 0) }
    ∷ record { given = sample_poly_cbd 3 (replicate 192 255) (replicate 256 9); stated = (0, replicate 256 0) }
    ∷ []
