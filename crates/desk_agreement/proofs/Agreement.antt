-- The desk and the library agree: both answer the question of the same numbers, which goes by its output's length alone.
use Prim.Native.Nat.{ℕ, ◌/◌}
use native.Mathlib.Omega.{arith}
use mathlib.Core.Path.{◌≡◌, refl, sym, ap, ◌∙◌}
use mathlib.Core.Bool.{Bool, true, false, cond}
use mathlib.Core.List.{List}
use lib.ListN.{length, replicate, length-replicate}
use lib.IntN.{ℤ, pos}
use Rattle.distr.specs.declared.answer.Answer.{Answer}
use Rattle.distr.specs.Answers.{reported}
use Rattle.distr.specs.Draw.{Outcome, outcome, writes, held_over}
use Rattle.little_endian.specs.LittleEndian.{words_in, bytes_of, coefficients_in}
use Rattle.little_endian.proofs.OneToOne.{one_to_one, length-bytes}
use Rattle.sheet_request.specs.Request.{question, question_skips}
use Rattle.sheet_request.proofs.Held.{question-held}
use Rattle.desk.specs.Desk.{DeskAnswer, desk_number, drawn_answer, desk_draw}
use Rattle.desk_agreement.specs.Agreement.{MeetsQuestion, MeetsDesk, Same, Agreement}

module _ (kind a b modulus : ℕ) (words : List ℕ) (place : ℕ) (out : List ℤ) where
  -- the question over zeros
  asked : Outcome ℤ
  asked = question kind a b modulus (words_in words) place (replicate (length out) (pos 0))

  -- which the desk answers
  desk_drawn : (output : List ℕ) → desk_number (length words) (length output) ≡ 0 → output ≡ bytes_of out
      → desk_draw kind a b modulus words place output
      ≡ record {
        number = asked.number;
        place = asked.place;
        skipped = reported asked.number (question_skips kind a b (length out) (words_in words) place);
        output = cond (writes asked.number) (bytes_of asked.output) output;
      }
  unfolding desk_draw drawn_answer asked
  desk_drawn output good e =
      let size = length-bytes out in
      let items : length output / 8 ≡ length out = rw e (omega arith) in
      rw (good, items)

  -- and which the library answers over its own output
  library_drawn : (library : Answer) (after : List ℤ) → MeetsQuestion kind a b modulus (words_in words) place out library after
      → outcome library after ≡ held_over (λ cs. cs) out asked
  unfolding asked
  library_drawn library after meets =
      meets.0 ∙ question-held (words_in words) place (replicate (length out) (pos 0)) out (sym (length-replicate (length out) (pos 0))) kind a b modulus

  -- so their answers are the same
  drawn-same : (output : List ℕ) (desk : DeskAnswer) (library : Answer) (after : List ℤ)
      → desk_number (length words) (length output) ≡ 0 → output ≡ bytes_of out
      → MeetsDesk kind a b modulus words place output desk → MeetsQuestion kind a b modulus (words_in words) place out library after
      → Same desk library after
  drawn-same output desk library after good e meets asks =
      let answered = meets ∙ desk_drawn output good e in
      let drawn = library_drawn library after asks in
      let same_number : asked.number ≡ library.number = sym (ap (λ (o : Outcome ℤ). o.number) drawn) in
      let written : desk.output ≡ bytes_of after =
      ap (λ (d : DeskAnswer). d.output) answered ∙ by_writing (writes asked.number) output e ∙ ap bytes_of (sym (ap (λ (o : Outcome ℤ). o.output) drawn)) in
      record {
        number = ap (λ (d : DeskAnswer). d.number) answered ∙ same_number;
        place = ap (λ (d : DeskAnswer). d.place) answered ∙ sym (ap (λ (o : Outcome ℤ). o.place) drawn);
        skipped = ap (λ (d : DeskAnswer). d.skipped) answered ∙ ap (λ (k : ℕ). reported k (question_skips kind a b (length out) (words_in words) place)) same_number ∙ sym asks.1;
        bytes = written;
        coefficients = λ fits. ap coefficients_in written ∙ one_to_one.read_back after fits;
      }
    where
      by_writing : (b : Bool) (output : List ℕ) → output ≡ bytes_of out → cond b (bytes_of asked.output) output ≡ bytes_of (cond b asked.output out)
      by_writing true output e = refl
      by_writing false output e = e

pub agreement : Agreement
agreement = record {
  entries = λ kind a b modulus words place output out desk library after. drawn-same kind a b modulus words place out output desk library after;
  one_to_one = one_to_one;
  desk_calls = (λ κs before. refl, λ κs before answer after. refl);
  library_calls = (λ κs before. refl, λ κs before answer after. refl);
}
