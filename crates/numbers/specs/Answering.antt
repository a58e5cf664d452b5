-- One 64-bit word an element: what is read, and what a draw answers.
use Rattle.std.specs.Prelude.{ℕ, ◌+◌, ◌*◌, ◌-◌, Bool, cond, ◌&&◌, List, [], ◌∷◌, map, ltb, eqb, ℤ, Result, Ok, Err}
use Rattle.distr.specs.declared.answer.Answer.{Answer}
use Rattle.distr.specs.declared.refusal.Refusal.{Refusal}
use Rattle.distr.specs.Answers.{success, refusal}
use Rattle.distr.specs.Refusals.{number}
use Rattle.distr.specs.Words.{Read, map_read, many, wide}
use Rattle.distr.specs.Rule.{Rule, constant, wide_words}
use Rattle.distr.specs.Constants.{out_of_words}
use Rattle.distr.specs.Making.{refuse}
use Rattle.distr.specs.Numbers.{first_of, past_end, too_long}

-- n elements, each given by its word.
abbrev pub wide_read : {A : Type 0} → (ℕ → A) → ℕ → List ℕ → Read (List A)
wide_read value n ws = map_read (map value) (many wide n ws)

-- The rule of a draw that reads a word for each coefficient, or gives one value throughout.
abbrev pub wide_rule : Bool → ℤ → (ℕ → ℤ) → ℕ → Rule
wide_rule reads v value n = cond reads (wide_words n value) (constant v n)

-- The number of a draw of n coefficients from a place of `count` words: 22, 6, the draw's own, then 23 where it reads and the words are
-- not there.
unfoldable pub number_of : ℕ → Bool → ℕ → ℕ → ℕ → ℕ
number_of own reads count place n =
    first_of (past_end count place ∷ too_long n ∷ own ∷ refuse (reads && ltb (count - place) (2 * n)) out_of_words ∷ [])

-- The answer with a number: the place moves where words were read. Such a draw skips nothing.
abbrev pub answer_by : Bool → ℕ → ℕ → ℕ → Answer
answer_by reads place n number =
    record { number = number; place = cond (eqb number 0 && reads) (place + 2 * n) place; index = 0; skipped_words = 0; skipped_bytes = 0 }

abbrev pub answer_of : ℕ → Bool → ℕ → ℕ → ℕ → Answer
answer_of own reads count place n = answer_by reads place n (number_of own reads count place n)

-- The answer of a draw from a place that ends at another, or is refused; such a draw skips nothing.
abbrev pub answered : ℕ → Result ℕ Refusal → Answer
answered place (Ok after) = success after
answered place (Err why) = refusal (number why) place
