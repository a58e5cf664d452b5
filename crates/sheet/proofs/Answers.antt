-- The text of a sheet's draw is the sheet's answer.
use Prim.Native.Nat.{ℕ, ◌<◌, ◌≤◌}
use native.Mathlib.Omega.{arith}
use mathlib.Core.Path.{◌≡◌, refl, sym, ◌∙◌, ap}
use mathlib.Core.Bool.{Bool, true, false, cond}
use mathlib.Core.List.{List, [], append-nil}
use borrow.Author.Tests.{lt-ltb, le-ltb, ne_eqb}
use lib.Dec.{ltb, eqb}
use lib.ListN.{length, take}
use lib.Seq.{sets, length-take-le}
use lib.IntN.{ℤ}
use Rattle.distr.specs.declared.answer.Answer.{Answer}
use Rattle.distr.specs.Answers.{sums, reported}
use Rattle.distr.specs.Draw.{Outcome, outcome}
use Rattle.little_endian.specs.LittleEndian.{words_at}
use Rattle.sheet_request.specs.Request.{question_skips}
use Rattle.sheet.specs.declared.fields.Fields.{Fields}
use Rattle.sheet.specs.Text.{answer_text, skipped_line, line_if}
use Rattle.sheet.specs.Sheet.{fields_of, malformed, fields_draw, fields_text, fields_skipped, fields_third, fields_text_as}
use Rattle.sheet.specs.Sheet.{sheet_text, sheet_third, sheet_text_as, sheet_text_with_skipped, text_limit, answered, answered_with_skipped}
use Rattle.sheet.specs.Written.{Written}
use Rattle.sheet.proofs.Placing.{written_same, written_then}

-- What a draw of the sheet reports is what the sheet's draw skipped.
pub skipped-drawn : (f : Fields) (words : List ℕ) (answer : Answer) (cs : List ℤ) → outcome answer cs ≡ fields_draw f words → {size : ℕ} → size ≡ f.n
    → sums answer ≡ reported answer.number (question_skips f.kind f.a f.b size words 0) → sums answer ≡ fields_skipped f words
unfolding fields_skipped
skipped-drawn f words answer cs drawn {size} e h =
    h ∙ ap (λ (n : ℕ). reported answer.number (question_skips f.kind f.a f.b n words 0)) e
    ∙ ap (λ (o : Outcome ℤ). reported o.number (question_skips f.kind f.a f.b f.n words 0)) drawn

-- No line is wanted where there is none.
no_line : (wanted : Bool) → line_if wanted [] ≡ []
no_line true = refl
no_line false = refl

refusal-text : (number place n : ℕ) (coefficients : List ℤ) → (number ≡ 0 → ⊥) → answer_text number 0 0 [] ≡ answer_text number place n coefficients
unfolding answer_text
refusal-text number place n coefficients ne = rw (ne_eqb number 0 ne)

-- The text of that draw is the text of the fields, with the third line where it is wanted; of a refusal it is nothing but the number's line.
module _ (f : Fields) (words : List ℕ) (wanted : Bool) (answer : Answer) (cs : List ℤ) (drawn : outcome answer cs ≡ fields_draw f words) where
  drawn-text : answer_text answer.number answer.place f.n cs ≡ fields_text f words
  drawn-text = ap (λ (o : Outcome ℤ). answer_text o.number o.place f.n o.output) drawn

  third_line : line_if (eqb answer.number 0) (skipped_line (fields_skipped f words)) ≡ fields_third f words
  third_line = ap (λ (o : Outcome ℤ). line_if (eqb o.number 0) (skipped_line (fields_skipped f words))) drawn

  pub refused-text : (answer.number ≡ 0 → ⊥) → answer_text answer.number 0 0 [] ≡ fields_text_as wanted f words
  refused-text ne =
      refusal-text answer.number answer.place f.n cs ne ∙ drawn-text
      ∙ rw (← third_line, ne_eqb answer.number 0 ne, no_line wanted, append-nil (fields_text f words))

  pub success-written : answer.number ≡ 0 → {size : ℕ} → size ≡ f.n → sums answer ≡ fields_skipped f words → {t u v : List ℕ} {i j k : ℕ}
      → Written t i (answer_text 0 answer.place size cs) u j → Written u j (line_if wanted (skipped_line (sums answer))) v k
      → Written t i (fields_text_as wanted f words) v k
  success-written z e h lines third = written_same (rw (← drawn-text, ← third_line, ← h, z, e)) (written_then lines third)

-- The length of a prefix.
pub prefix_length : {A : Type 0} (n : ℕ) (l : List A) → n ≤ length l → n ≡ length (take n l)
prefix_length n l h = sym (length-take-le n l h)

-- An answer in a text that is long enough, and in one that is not.
placed : (bytes text after : List ℕ) (end : ℕ) → text_limit ≤ length text → Written text 0 bytes after end
    → ◌≡◌ {A = ℕ × List ℕ} (end, after) (cond (ltb (length text) text_limit) (0, text) (length bytes, sets text 0 bytes))
placed bytes text after end h w =
    ap (λ (k : ℕ). (k, after)) (omega (arith, w.place)) ∙ ap (λ (l : List ℕ). (length bytes, l)) w.text ∙ rw (le-ltb (length text) text_limit h)

module _ (wanted : Bool) (s text : List ℕ) where
  abbrev Answered : ℕ → List ℕ → Type 0
  Answered end after =
      ((end, after) ≡ cond wanted (answered_with_skipped s text) (answered s text)) × ((end ≤ length after) × (end ≡ length (take end after)))

  pub answered_long : (after : List ℕ) (end : ℕ) → text_limit ≤ length text → Written text 0 (sheet_text_as wanted s) after end
      → Answered end after
  unfolding answered answered_with_skipped
  answered_long after end h w = (by_want wanted w, (w.inside, prefix_length end after w.inside))
    where
      by_want : (b : Bool) → Written text 0 (sheet_text_as b s) after end → (end, after) ≡ cond b (answered_with_skipped s text) (answered s text)
      by_want true z = placed (sheet_text_with_skipped s) text after end h z
      by_want false z = placed (sheet_text s) text after end h (written_same (append-nil (sheet_text s)) z)

  pub answered-short : length text < text_limit → Answered 0 text
  unfolding answered answered_with_skipped
  answered-short h = (by_want wanted, (omega arith, prefix_length 0 text (omega arith)))
    where
      by_want : (b : Bool) → (0, text) ≡ cond b (answered_with_skipped s text) (answered s text)
      by_want true = rw (lt-ltb (length text) text_limit h)
      by_want false = rw (lt-ltb (length text) text_limit h)

-- The text of a sheet, malformed or not.
pub malformed-text : (wanted : Bool) (s : List ℕ) → malformed s ≡ true → answer_text 14 0 0 [] ≡ sheet_text_as wanted s
unfolding sheet_text sheet_third
malformed-text wanted s e = rw (e, no_line wanted, append-nil (answer_text 14 0 0 []))

pub sheet_text_lem : (wanted : Bool) (s : List ℕ) (f : Fields) (words : List ℕ) → f ≡ fields_of s → malformed s ≡ false
    → words ≡ words_at s f.offset f.count → fields_text_as wanted f words ≡ sheet_text_as wanted s
unfolding sheet_text sheet_third
sheet_text_lem wanted s f words read good h =
    ap (fields_text_as wanted f) h ∙ ap (λ (g : Fields). fields_text_as wanted g (words_at s g.offset g.count)) read ∙ rw good
