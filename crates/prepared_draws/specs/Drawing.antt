-- Draws by a prepared method: what can refuse one before its tables are judged, and what it draws.
use Rattle.std.specs.Prelude.{ℕ, ◌-◌, ◌^◌, cond, ◌&&◌, List, [], ◌∷◌, ◌++◌, map, eqb, length, take, ℤ, Result, Ok, Err}
use Rattle.distr.specs.declared.refusal.Refusal.{Refusal}
use Rattle.distr.specs.Constants.{modulus_zero, never_made}
use Rattle.distr.specs.Refusals.{number}
use Rattle.distr.specs.Skipped.{Skipped, nothing}
use Rattle.distr.specs.Distribution.{Tables}
use Rattle.distr.specs.Encoding.{encode_with}
use Rattle.distr.specs.Making.{refuse}
use Rattle.distr.specs.Numbers.{first_of, past_end, state_numbers, shape_number, too_long, modulus_number, moduli_numbers}
use Rattle.distr.specs.Draw.{Outcome, judged}
use Rattle.methods.specs.declared.SamplingMethod.{SamplingMethod}
use Rattle.methods.specs.Method.{magnitude_of, length_of}
use Rattle.methods.specs.Keys.{is_binomial, is_served}
use Rattle.method_draws.specs.Drawing.{method_draw, method_skips}
use Rattle.crt.specs.Rows.{last_row, finished}

-- What was prepared draws. Where there is a reason in its place, the number that `by` gives the reason is the draw's, before anything else is judged.
unfoldable pub prepared_draw_by : {A R : Type 0} → (R → ℕ) → Result SamplingMethod R → ℕ → List A → (SamplingMethod → Outcome A) → Outcome A
prepared_draw_by by (Ok method) place out draw = draw method
prepared_draw_by by (Err why) place out draw = record { number = by why; place = place; index = 0; output = out }

-- The same where the reason is a refusal, by its number.
abbrev pub prepared_draw : {A : Type 0} → Result SamplingMethod Refusal → ℕ → List A → (SamplingMethod → Outcome A) → Outcome A
prepared_draw prepared place out draw = prepared_draw_by number prepared place out draw

-- 02 [1]: what such a draw skips; a refused one skips nothing.
unfoldable pub prepared_skips : {R : Type 0} → Result SamplingMethod R → (SamplingMethod → Skipped) → Skipped
prepared_skips (Ok method) skips = skips method
prepared_skips (Err why) skips = nothing

-- What refuses residues of a modulus: 7 or 8 for the length, 10 for the centered binomial's of 0 (its encoded draw is a CRT draw), then 9.
abbrev pub residue_numbers : SamplingMethod → ℕ → ℕ → List ℕ
residue_numbers method n modulus =
    length_of method n ∷ refuse (is_binomial method && eqb modulus 0) modulus_zero ∷ modulus_number (magnitude_of method) modulus ∷ []

-- Residues of one modulus: 22, 6 and what is asked of them, or what the method draws, −1 as modulus − 1.
unfoldable pub encoded_by : SamplingMethod → Tables → ℕ → List ℕ → ℕ → List ℕ → Outcome ℕ
encoded_by method tables modulus words place out =
    let asked = first_of (residue_numbers method (length out) modulus) in
    cond (eqb asked 0) (method_draw (map (encode_with (modulus - 1))) method tables words place out)
    (record { number = first_of (past_end (length words) place ∷ too_long (length out) ∷ asked ∷ []); place = place; index = 0; output = out })

-- The numbers of a CRT draw: 21, 22, 11, 6, then modulus by modulus 10 before 9.
unfoldable pub crt_number : SamplingMethod → ℕ → ℕ → ℕ → ℕ → List ℕ → ℕ
crt_number method words place n coefficient_count moduli =
    first_of (state_numbers (is_served method) words place
    ++ (shape_number n coefficient_count (length moduli) ∷ too_long n ∷ moduli_numbers (magnitude_of method) moduli))

-- Coefficients as residues of 2^64.
abbrev pub as_native : List ℤ → List ℕ
as_native cs = map (encode_with (2 ^ 64 - 1)) cs

-- A row drawn in native residues; "another sampler gives 21".
unfoldable pub row_draw : SamplingMethod → Tables → List ℕ → ℕ → List ℕ → Outcome ℕ
row_draw method tables words place out =
    cond (is_served method) (method_draw as_native method tables words place out) (record { number = never_made; place = place; index = 0; output = out })

-- An output whose last row was drawn, finished from it.
abbrev pub finished_row : List ℕ → ℕ → List ℕ → Outcome ℕ → Outcome ℕ
finished_row out coefficient_count moduli row =
    finished (take (length out - coefficient_count) out ++ row.output) coefficient_count moduli row.number row.place row.index

-- The first number that refuses the draw, or the rows made from the last one.
unfoldable pub crt_by : SamplingMethod → Tables → ℕ → List ℕ → List ℕ → ℕ → List ℕ → Outcome ℕ
crt_by method tables coefficient_count moduli words place out =
    judged (crt_number method (length words) place (length out) coefficient_count moduli) place out
    (finished_row out coefficient_count moduli (row_draw method tables words place (last_row out coefficient_count)))

-- 02 [1]: what a CRT draw by a method into n elements skips: one sum, and nothing for an empty output.
unfoldable pub crt_skips_by : SamplingMethod → Tables → ℕ → ℕ → List ℕ → Skipped
crt_skips_by method tables coefficient_count n ws = cond (eqb n 0) nothing (method_skips method tables coefficient_count ws)
