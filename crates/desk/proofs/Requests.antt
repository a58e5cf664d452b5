-- What is known of a request that 29 does not refuse, and the desk's answer from the library's.
use mathlib.Core.Path.{◌≡◌, ap, ◌∙◌}
use mathlib.Core.Bool.{not, cond, ◌||◌}
use mathlib.Core.List.{List}
use Prim.Native.Nat.{ℕ, ◌/◌, ◌%◌, ◌≤◌}
use borrow.Author.Tests.{ltb-false, eqb-true, not-false}
use lib.Dec.{ltb, eqb}
use lib.ListN.{length, take, replicate}
use lib.IntN.{ℤ, pos}
use Rattle.distr.specs.declared.answer.Answer.{Answer}
use Rattle.distr.specs.Constants.{desk_coefficients, desk_words}
use Rattle.distr.specs.Skipped.{Skipped}
use Rattle.distr.specs.Answers.{sums, reported}
use Rattle.distr.specs.Draw.{Outcome, outcome, writes}
use Rattle.distr.proofs.Reading.{or_false}
use Rattle.distr.proofs.Drawing.{not-refused}
use Rattle.distr.proofs.Writing.{take-replicate}
use Rattle.little_endian.specs.LittleEndian.{bytes_of}
use Rattle.sheet_request.specs.Request.{question, question_skips}
use Rattle.desk.specs.Desk.{desk_answer, bad_request, desk_number, drawn_answer}

pub record Good (word_bytes output_bytes : ℕ) : Type 0 where
  pub few-coefficients : output_bytes / 8 ≤ desk_coefficients
  pub few_words : word_bytes / 4 ≤ desk_words
  pub whole_output : output_bytes % 8 ≡ 0
  pub whole_words : word_bytes % 4 ≡ 0

pub good : (word_bytes output_bytes : ℕ) → desk_number word_bytes output_bytes ≡ 0 → Good word_bytes output_bytes
unfolding desk_number
good word_bytes output_bytes e =
    let coefficients = ltb desk_coefficients (output_bytes / 8) in
    let words = ltb desk_words (word_bytes / 4) in
    let output = not (eqb (output_bytes % 8) 0) in
    let all = or_false (coefficients || words || output) (not (eqb (word_bytes % 4) 0)) (not-refused (bad_request word_bytes output_bytes) 28 e) in
    let to-output = or_false (coefficients || words) output all.0 in
    let to-words = or_false coefficients words to-output.0 in
    record {
      few-coefficients = ltb-false desk_coefficients (output_bytes / 8) to-words.0;
      few_words = ltb-false desk_words (word_bytes / 4) to-words.1;
      whole_output = eqb-true (output_bytes % 8) 0 (not-false (eqb (output_bytes % 8) 0) to-output.1);
      whole_words = eqb-true (word_bytes % 4) 0 (not-false (eqb (word_bytes % 4) 0) all.1);
    }

-- the first n of the room's coefficients are zeros
pub room_zeros : (n : ℕ) {room : List ℤ} → room ≡ replicate desk_coefficients (pos 0) → n ≤ desk_coefficients → take n room ≡ replicate n (pos 0)
room_zeros n e few = ap (take n) e ∙ take-replicate n 4096 (pos 0) few

-- the library's answer over zeros, and the bytes that are written, are the desk's answer
pub answered : (kind a b modulus : ℕ) (words : List ℕ) (place : ℕ) (output : List ℕ) {r : Answer} {cs : List ℤ} {after : List ℕ}
    → let n = length output / 8 in
    outcome r cs ≡ question kind a b modulus words place (replicate n (pos 0))
    → sums r ≡ reported r.number (question_skips kind a b n words place)
    → after ≡ cond (writes r.number) (bytes_of cs) output
    → desk_answer r.number r.place r.skipped_words r.skipped_bytes after ≡ drawn_answer kind a b modulus words place output
unfolding drawn_answer
answered kind a b modulus words place output {r} {cs} {after} drawn skipped written =
    let n = length output / 8 in
    ap (λ (s : Skipped). record { number = r.number; place = r.place; skipped = s; output = after }) skipped
    ∙ ap (λ (l : List ℕ). record {
      number = r.number;
      place = r.place;
      skipped = reported r.number (question_skips kind a b n words place);
      output = l;
    }) written
    ∙ ap (λ (o : Outcome ℤ). record {
      number = o.number;
      place = o.place;
      skipped = reported o.number (question_skips kind a b n words place);
      output = cond (writes o.number) (bytes_of o.output) output;
    }) drawn
