-- The whole answer of a draw: its number, the place after it, the index that goes with the number and every element of the output.
use Rattle.std.specs.Prelude.{ℕ, ◌-◌, ◌≡◌, Bool, true, cond, ◌&&◌, ◌||◌, List, [], ◌∷◌, ◌++◌, map, eqb, length, drop, replicate, ℤ, pos}
use Rattle.distr.specs.declared.answer.Answer.{Answer}
use Rattle.distr.specs.declared.error_distribution.ErrorDistribution.TheVariants.{CenteredBinomial, Gaussian as ErrorGaussian}
use Rattle.distr.specs.Constants.{out_of_words}
use Rattle.distr.specs.Words.{Read, got, short}
use Rattle.distr.specs.Rule.{Rule, read_by}
use Rattle.distr.specs.Skipped.{Skipped, nothing}
use Rattle.distr.specs.Distribution.{Distr, secret, error, Tables, coefficients, skips_of}
use Rattle.distr.specs.Encoding.{encode, rows}
use Rattle.distr.specs.Making.{making_number}
use Rattle.distr.specs.Numbers.{first_of, past_end, too_long, state_numbers, signed_numbers, encoded_numbers, crt_numbers, serves_crt, table_index}

pub record Outcome (A : Type 0) : Type 0 where
  pub number : ℕ
  pub place : ℕ
  pub index : ℕ
  pub output : List A

-- A function's answer with what its output holds then.
abbrev pub outcome : {A : Type 0} → Answer → List A → Outcome A
outcome answer output = record { number = answer.number; place = answer.place; index = answer.index; output = output }

-- "Success is number 0 and the new place"; "23 keeps the place and writes zeros over the output".
-- `word_count` words in all, the draw begun at `place`, n coefficients wanted, `write` what the output holds for coefficients. What is left
-- after reading is a tail of the words, so the new place is the number of words before that tail.
unfoldable pub settled : {A : Type 0} → (List ℤ → List A) → ℕ → ℕ → ℕ → Read (List ℤ) → Outcome A
settled write word_count place n (got cs rest) = record { number = 0; place = word_count - length rest; index = 0; output = write cs }
settled write word_count place n short = record { number = out_of_words; place = place; index = 0; output = write (replicate n (pos 0)) }

-- "All but 23 change neither place nor output."
unfoldable pub judged : {A : Type 0} → ℕ → ℕ → List A → Outcome A → Outcome A
judged number place out drawn = cond (eqb number 0) drawn (record { number = number; place = place; index = 0; output = out })

-- The numbers with which an output is written: 0, and 23.
abbrev pub writes : ℕ → Bool
writes number = eqb number 0 || eqb number out_of_words

-- 02 [4]: an outcome in another output: there `hold` says what is written, and what stood there stays where nothing is written.
abbrev pub held_over : {A B : Type 0} → (List A → List B) → List B → Outcome A → Outcome B
held_over hold out o = record { number = o.number; place = o.place; index = o.index; output = cond (writes o.number) (hold o.output) out }

-- 02 [6]: an outcome with the index that goes with its number.
abbrev pub naming : {A : Type 0} → (ℕ → ℕ) → Outcome A → Outcome A
naming index o = record { number = o.number; place = o.place; index = index o.number; output = o.output }

-- A draw: the first number that refuses it, or what the rules give from the place on, n coefficients wanted.
abbrev pub drawn : {A : Type 0} → (List ℤ → List A) → List ℕ → List ℕ → ℕ → List A → ℕ → (List ℕ → Read (List ℤ)) → Outcome A
drawn write numbers words place out n rules =
    judged (first_of numbers) place out (settled write (length words) place n (rules (drop place words)))

-- A draw into the whole output for a caller that has no sampler: 22, 6, and one number more, of a length, a weight or a table.
abbrev pub read_draw : {A : Type 0} → (List ℤ → List A) → ℕ → (List ℕ → Read (List ℤ)) → List ℕ → ℕ → List A → Outcome A
read_draw write number rules words place out =
    drawn write (past_end (length words) place ∷ too_long (length out) ∷ number ∷ []) words place out (length out) rules

-- Such a draw whose coefficients one rule gives.
unfoldable pub rule_draw : {A : Type 0} → (List ℤ → List A) → ℕ → Rule → List ℕ → ℕ → List A → Outcome A
rule_draw write number rule words place out = read_draw write number (read_by rule) words place out

-- A signed draw. `made` says whether making gives the sampler, d is its distribution.
unfoldable pub signed_draw : Bool → Distr → Tables → List ℕ → ℕ → List ℤ → Outcome ℤ
signed_draw made d tables words place out =
    naming (table_index d tables)
    (drawn (λ cs. cs) (state_numbers made (length words) place ++ signed_numbers d tables (length out)) words place out
    (length out) (coefficients d (length out) tables))

-- What a call of a `sample_signed_to` does: its answer and its output are those of the signed draw. The contracts of both samplers cite this
-- predicate, and demand 3 quantifies over it.
abbrev pub Meets : Bool → Distr → Tables → List ℕ → ℕ → List ℤ → Outcome ℤ → Type 0
Meets made d tables words place out o = o ≡ signed_draw made d tables words place out

-- A CRT draw of so many coefficients; "an empty output now succeeds and reads nothing".
unfoldable pub crt_draw : Bool → Distr → Tables → ℕ → List ℕ → List ℕ → ℕ → List ℕ → Outcome ℕ
crt_draw made d tables coefficient_count moduli words place out =
    let numbers = state_numbers (made && serves_crt d) (length words) place ++ crt_numbers d tables (length out) coefficient_count moduli in
    naming (table_index d tables)
    (cond (eqb (length out) 0) (judged (first_of numbers) place out (record { number = 0; place = place; index = 0; output = out }))
    (drawn (rows moduli) numbers words place out coefficient_count (coefficients d coefficient_count tables)))

-- 02 [1]: what a CRT draw into n elements skips. Each coefficient is drawn once, so there is one sum and not one for each modulus; an empty output
-- reads nothing.
unfoldable pub crt_skips : Distr → ℕ → Tables → ℕ → List ℕ → Skipped
crt_skips d coefficient_count tables n ws = cond (eqb n 0) nothing (skips_of d coefficient_count tables ws)

-- A draw of residues of one modulus.
abbrev pub residue_draw : Bool → Distr → Tables → ℕ → List ℕ → ℕ → List ℕ → Outcome ℕ
residue_draw made d tables modulus words place out =
    naming (table_index d tables)
    (drawn (map (encode modulus)) (state_numbers made (length words) place ++ encoded_numbers d tables (length out) modulus) words place out
    (length out) (coefficients d (length out) tables))

-- An encoded draw. "An encoded centered binomial is a CRT draw of one modulus, so modulus 0 gives 10 there."
unfoldable pub encoded_draw : Bool → Distr → Tables → ℕ → List ℕ → ℕ → List ℕ → Outcome ℕ
encoded_draw made (secret d) tables modulus words place out = residue_draw made (secret d) tables modulus words place out
encoded_draw made (error (ErrorGaussian deviation)) tables modulus words place out =
    residue_draw made (error (ErrorGaussian deviation)) tables modulus words place out
encoded_draw made (error (CenteredBinomial eta)) tables modulus words place out =
    crt_draw made (error (CenteredBinomial eta)) tables (length out) (modulus ∷ []) words place out

-- The tables of a draw that uses none.
abbrev pub no_tables : Tables
no_tables = record { bounds = []; layers = record { endpoints = []; heights = []; curve = [] } }

-- A draw for a caller that has no sampler: the number of making the distribution, where that refuses it, before anything else is judged;
-- else the draw by the sampler that making gives.
abbrev pub at_once : {A : Type 0} → Distr → ℕ → List A → Outcome A → Outcome A
at_once d place out drawn = judged (making_number d) place out drawn

unfoldable pub signed_at_once : Distr → List ℕ → ℕ → List ℤ → Outcome ℤ
signed_at_once d words place out = at_once d place out (signed_draw true d no_tables words place out)

unfoldable pub encoded_at_once : Distr → ℕ → List ℕ → ℕ → List ℕ → Outcome ℕ
encoded_at_once d modulus words place out = at_once d place out (encoded_draw true d no_tables modulus words place out)
