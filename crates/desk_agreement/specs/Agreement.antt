-- 02 [4]: "On all else the two entries give the same number, coefficients and place."
use Rattle.std.specs.Prelude.{ℕ, ◌≡◌, List, length, get_or, ℤ, pos}
use Rattle.std.specs.Borrow.{Bor, MutBor}
use Rattle.distr.specs.declared.answer.Answer.{Answer}
use Rattle.distr.specs.Answers.{sums, reported}
use Rattle.distr.specs.Draw.{outcome}
use Rattle.distr.specs.Contract.{Contract}
use Rattle.little_endian.specs.LittleEndian.{words_in, bytes_of, coefficients_in}
use Rattle.little_endian.specs.OneToOne.{Is64, OneToOne}
use Rattle.sheet_request.specs.Request.{question, question_skips}
use Rattle.sheet_request.proofs.draw_question.Reads as draw-question
use Rattle.desk.specs.Desk.{DeskAnswer, desk_answer, desk_number, desk_draw}
use Rattle.desk.proofs.desk_draw.Reads as desk-draw

-- ---- the two contracts

-- What a call of the library does with a question by numbers.
abbrev pub MeetsQuestion : ℕ → ℕ → ℕ → ℕ → List ℕ → ℕ → List ℤ → Answer → List ℤ → Type 0
MeetsQuestion kind a b modulus words place out answer after =
    (outcome answer after ≡ question kind a b modulus words place out)
    × (sums answer ≡ reported answer.number (question_skips kind a b (length out) words place))

-- What a call of the desk's entry does.
abbrev pub MeetsDesk : ℕ → ℕ → ℕ → ℕ → List ℕ → ℕ → List ℕ → DeskAnswer → Type 0
MeetsDesk kind a b modulus words place output answer = answer ≡ desk_draw kind a b modulus words place output

-- The arguments of `draw_question`: kind, a, b, modulus, output, words, place. Its promise is what `MeetsQuestion` says.
abbrev pub QuestionArguments : Type 0
QuestionArguments = ℕ × (ℕ × (ℕ × (ℕ × (MutBor (List ℤ) × (Bor (List ℕ) × (ℕ × Unit {0}))))))

abbrev pub QuestionCall : QuestionArguments → Answer → QuestionArguments → Type 0
QuestionCall (kind, (a, (b, (modulus, (output, (words, (place, end))))))) answer (_, (_, (_, (_, (written, _))))) =
    MeetsQuestion kind a b modulus words.now place output.now answer written.now

-- The arguments of `desk_draw`: kind, a, b, modulus, words, output, place, skipped words, skipped bytes. Its promise is what `MeetsDesk` says.
abbrev pub DeskArguments : Type 0
DeskArguments = ℕ × (ℕ × (ℕ × (ℕ × (Bor (List ℕ) × (MutBor (List ℕ) × (MutBor ℕ × (MutBor ℕ × (MutBor ℕ × Unit {0}))))))))

abbrev pub DeskCall : DeskArguments → ℕ → DeskArguments → Type 0
DeskCall (kind, (a, (b, (modulus, (words, (output, (place, rest))))))) number (_, (_, (_, (_, (_, (written, (moved, (skipped_words, (skipped_bytes, end))))))))) =
    MeetsDesk kind a b modulus words.now place.now output.now
    (desk_answer number moved.now skipped_words.now skipped_bytes.now written.now)

-- ---- the claim

-- A desk's answer is the library's: the same number, place and sums, and its bytes are those of the coefficients and are read as them. (An output of i64
-- holds coefficients of 64 bits and no others.)
pub record Same (desk : DeskAnswer) (library : Answer) (after : List ℤ) : Type 0 where
  pub number : desk.number ≡ library.number
  pub place : desk.place ≡ library.place
  pub skipped : desk.skipped ≡ sums library
  pub bytes : desk.output ≡ bytes_of after
  pub coefficients : ((i : ℕ) → Is64 (get_or after i (pos 0))) → coefficients_in desk.output ≡ after

pub record Agreement : Type 1 where
  -- For every request that 29 does not refuse: a call of the desk and one of the library with the same numbers, on the same words, from the same place and
  -- over outputs that hold the same at entry, give the same.
  pub entries : (kind a b modulus : ℕ) (words : List ℕ) (place : ℕ) (output : List ℕ) (out : List ℤ) (desk : DeskAnswer) (library : Answer) (after : List ℤ)
      → desk_number (length words) (length output) ≡ 0 → output ≡ bytes_of out
      → MeetsDesk kind a b modulus words place output desk → MeetsQuestion kind a b modulus (words_in words) place out library after
      → Same desk library after
  -- Every output of whole items holds such coefficients at entry.
  pub one_to_one : OneToOne
  -- And it is about this code.
  pub desk_calls : Contract 5 DeskArguments ℕ DeskCall desk-draw.Pre desk-draw.Post
  pub library_calls : Contract 2 QuestionArguments Answer QuestionCall draw-question.Pre draw-question.Post
