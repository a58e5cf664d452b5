-- A question of a kind that is known, on zeros, is the draw of a sheet: residues are their value there, also where nothing is written.
use Prim.Native.Nat.{ℕ}
use mathlib.Core.Path.{◌≡◌, refl, sym, ap, ◌∙◌}
use mathlib.Core.Bool.{Bool, true, false, cond, true≢false}
use mathlib.Core.List.{List, map}
use lib.Dec.{eqb}
use lib.ListN.{replicate, length-replicate}
use lib.IntN.{ℤ, pos}
use Rattle.distr.specs.declared.answer.Answer.{Answer}
use Rattle.distr.specs.Distribution.{Distr}
use Rattle.distr.specs.Making.{making_number}
use Rattle.distr.specs.Draw.{Outcome, outcome, judged, writes, no_tables, signed_draw, encoded_draw, signed_at_once, encoded_at_once}
use Rattle.distr.proofs.Writing.{map-replicate}
use Rattle.draw_laws.proofs.Idle.{Idle, encoded_idle}
use Rattle.sheet_request.specs.Request.{known_kind, kind_distr, as_values, values_draw, question}
use Rattle.sheet.specs.declared.fields.Fields.{Fields}
use Rattle.sheet.specs.Sheet.{residues, fields_draw}

-- a number with which nothing is written is not 0
unwritten : (number : ℕ) → writes number ≡ false → number ≡ 0 → ⊥
unwritten number e z = let yes : writes number ≡ true = rw z in true≢false (sym yes ∙ e)

module _ (n : ℕ) where
  abbrev zeros : List ℤ
  zeros = replicate n (pos 0)

  same-zeros : map pos (replicate n 0) ≡ zeros
  same-zeros = map-replicate pos n 0

  as_residues : (o : Outcome ℕ) → Idle 0 (replicate n 0) o → as_values zeros o ≡ residues o
  as_residues o h = ap (λ (l : List ℤ). record { number = o.number; place = o.place; index = o.index; output = l }) (go (writes o.number) refl)
    where
      go : (b : Bool) → writes o.number ≡ b → cond (writes o.number) (map pos o.output) zeros ≡ map pos o.output
      go true e = rw e
      go false e = rw e (sym (ap (map pos) (h (unwritten o.number e)).1 ∙ same-zeros))

  judged-residues : (k : ℕ) (o : Outcome ℕ) → Idle 0 (replicate n 0) o → judged k 0 zeros (as_values zeros o) ≡ residues (judged k 0 (replicate n 0) o)
  unfolding judged
  judged-residues k o h = go (eqb k 0)
    where
      go : (b : Bool)
          → cond b (as_values zeros o) (record { number = k; place = 0; index = 0; output = zeros })
          ≡ residues (cond b o (record { number = k; place = 0; index = 0; output = replicate n 0 }))
      go true = as_residues o h
      go false = ap (λ (l : List ℤ). record { number = k; place = 0; index = 0; output = l }) (sym same-zeros)

question_fields : (f : Fields) (words : List ℕ) → known_kind f.kind ≡ true
    → question f.kind f.a f.b f.modulus words 0 (replicate f.n (pos 0)) ≡ fields_draw f words
unfolding question values_draw fields_draw signed_at_once encoded_at_once
question_fields f words known = rw (known, length-replicate f.n (pos 0)) (go (eqb f.modulus 0))
  where
    d : Distr
    d = kind_distr f.kind f.a f.b

    drawn-residues : Outcome ℕ
    drawn-residues = encoded_draw true d no_tables f.modulus words 0 (replicate f.n 0)

    signed : Outcome ℤ
    signed = signed_draw true d no_tables words 0 (zeros f.n)

    go : (b : Bool)
        → judged (making_number d) 0 (zeros f.n) (cond b signed (as_values (zeros f.n) drawn-residues))
        ≡ cond b (judged (making_number d) 0 (zeros f.n) signed) (residues (judged (making_number d) 0 (replicate f.n 0) drawn-residues))
    go true = refl
    go false = judged-residues f.n (making_number d) drawn-residues (encoded_idle no_tables words 0 f.n f.modulus d)

-- so the answer of such a question, with what it wrote, is the sheet's draw
pub drawn_fields : (f : Fields) (words : List ℕ) → known_kind f.kind ≡ true → (answer : Answer) {out cs vs : List ℤ} → vs ≡ cs
    → outcome answer cs ≡ question f.kind f.a f.b f.modulus words 0 out → out ≡ replicate f.n (pos 0)
    → outcome answer vs ≡ fields_draw f words
drawn_fields f words known answer same asked zeroed =
    ap (outcome answer) same ∙ asked ∙ ap (question f.kind f.a f.b f.modulus words 0) zeroed ∙ question_fields f words known
