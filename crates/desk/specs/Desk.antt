-- 02 [4], "The exam desk in C": the answer of its entry.
use Rattle.std.specs.Prelude.{ℕ, ◌/◌, ◌%◌, Bool, not, cond, ◌||◌, List, ltb, eqb, length, replicate, pos}
use Rattle.distr.specs.Constants.{invalid_desk_request, desk_coefficients, desk_words}
use Rattle.distr.specs.Skipped.{Skipped, nothing}
use Rattle.distr.specs.Answers.{reported}
use Rattle.distr.specs.Making.{refuse}
use Rattle.distr.specs.Draw.{writes}
use Rattle.little_endian.specs.LittleEndian.{words_in, bytes_of}
use Rattle.sheet_request.specs.Request.{question, question_skips}

-- What a call hands back: its number, the place, the sums of what was skipped, and every byte of the output.
pub record DeskAnswer : Type 0 where
  pub number : ℕ
  pub place : ℕ
  pub skipped : Skipped
  pub output : List ℕ

-- The same, from the number that is handed back and what stands behind the pointers then.
abbrev pub desk_answer : ℕ → ℕ → ℕ → ℕ → List ℕ → DeskAnswer
desk_answer number place words bytes output = record { number = number; place = place; skipped = record { words = words; bytes = bytes }; output = output }

-- "More than 4,096 coefficients (output bytes over eight) or 8,192 words, or a byte slice that is no whole number of items."
abbrev pub bad_request : ℕ → ℕ → Bool
bad_request word_bytes output_bytes =
    ltb desk_coefficients (output_bytes / 8) || ltb desk_words (word_bytes / 4) || not (eqb (output_bytes % 8) 0) || not (eqb (word_bytes % 4) 0)

-- "It refuses with 29, before every other check."
unfoldable pub desk_number : ℕ → ℕ → ℕ
desk_number word_bytes output_bytes = refuse (bad_request word_bytes output_bytes) invalid_desk_request

-- The question that the numbers ask, of as many coefficients as the output's bytes hold. The output's bytes are those of the coefficients where the
-- draw writes any, with 0 and 23; else they are as they were.
unfoldable pub drawn_answer : ℕ → ℕ → ℕ → ℕ → List ℕ → ℕ → List ℕ → DeskAnswer
drawn_answer kind a b modulus words place output =
    let n = length output / 8 in
    let o = question kind a b modulus words place (replicate n (pos 0)) in
    record {
      number = o.number;
      place = o.place;
      skipped = reported o.number (question_skips kind a b n words place);
      output = cond (writes o.number) (bytes_of o.output) output;
    }

-- The whole answer, on the words that stand in the bytes; with 29 "the output bytes and the place are unchanged".
unfoldable pub desk_draw : ℕ → ℕ → ℕ → ℕ → List ℕ → ℕ → List ℕ → DeskAnswer
desk_draw kind a b modulus words place output =
    let number = desk_number (length words) (length output) in
    cond (eqb number 0) (drawn_answer kind a b modulus (words_in words) place output)
    (record { number = number; place = place; skipped = nothing; output = output })
