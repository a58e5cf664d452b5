-- The answers of a CRT draw by a method: its number as the code tries it, the refusals, and the output finished from the last row that was
-- drawn.
use mathlib.Core.Path.{◌≡◌, refl, ap, ◌∙◌}
use mathlib.Core.Bool.{Bool, true, false, cond}
use mathlib.Core.List.{List, [], ◌∷◌, ◌++◌, append-nil}
use Prim.Native.Nat.{ℕ, zero, suc, ◌*◌, ◌-◌, ◌^◌, ◌<◌, ◌≤◌, zero-le}
use native.Mathlib.Nat.{mul-zero, mul-suc}
use native.Mathlib.Omega.{arith}
use borrow.Author.Rules.{part_to_end}
use borrow.Rule.Slice.PartMut.{mid_of, put_mid, Post-is}
use lib.Dec.{eqb}
use lib.ListN.{length, take, drop, length-append, length-drop, drop_of_length-le}
use lib.Seq.{drop_at, drop-length, length-take-le}
use Rattle.distr.specs.declared.answer.Answer.{Answer}
use Rattle.distr.specs.Draw.{Outcome, outcome, judged}
use Rattle.crt.specs.Rows.{native_rows_at, last_row, spread, spread_at, finished}
use Rattle.prepared_draws.specs.Drawing.{finished_row, crt_number, row_draw, crt_by}
use borrow.Author.Tests.{eq-eqb, ne_eqb}
use Rattle.distr.specs.Distribution.{Tables}
use Rattle.distr.specs.Answers.{refusal}
use Rattle.distr.specs.Numbers.{first_of, past_end, shape_number, too_long, moduli_numbers}
use Rattle.methods.specs.declared.SamplingMethod.{SamplingMethod}
use Rattle.methods.specs.Method.{magnitude_of}
use Rattle.methods.specs.Keys.{is_served}

-- a method whose number is 0 draws
pub by-method : {A : Type 0} (place : ℕ) (out : List A) {n : ℕ} {o drawn : Outcome A} → n ≡ 0 → o ≡ drawn → o ≡ judged n place out drawn
unfolding judged
by-method place out z e = rw z e

module _ (out : List ℕ) (count : ℕ) where
  -- the part lent from `last` on is the last row, and putting back what was drawn there replaces it
  pub lent_row : {last : ℕ} → last ≡ length out - count → mid_of last (length out - last) out ≡ last_row out count
  lent_row {last} e = part_to_end out last ∙ ap (λ (k : ℕ). drop k out) e

  put_back : {last : ℕ} (ys : List ℕ) → last ≡ length out - count
      → put_mid last (length out - last) out ys ≡ take (length out - count) out ++ ys
  put_back {last} ys e =
      rw (← e)
      (ap (λ (l : List ℕ). take last out ++ l)
      (ap (λ (l : List ℕ). ys ++ l) (Post-is last (length out) out (omega arith) ∙ drop-length out) ∙ append-nil ys))

  -- so the output is finished from the row that was drawn
  pub finished-lent : (moduli : List ℕ) (draw : List ℕ → Outcome ℕ) {last : ℕ} (answer : Answer) (ys : List ℕ) → last ≡ length out - count
      → outcome answer ys ≡ draw (mid_of last (length out - last) out)
      → finished (put_mid last (length out - last) out ys) count moduli answer.number answer.place answer.index
      ≡ finished_row out count moduli (draw (last_row out count))
  finished-lent moduli draw answer ys e drawn =
      ap (λ (l : List ℕ). finished l count moduli answer.number answer.place answer.index) (put_back ys e)
      ∙ ap (finished_row out count moduli) (drawn ∙ ap draw (lent_row e))

  pub length-row : length (last_row out count) ≡ length out - (length out - count)
  length-row = length-drop (length out - count) out

  -- a row of the same length in its place
  module _ (ys : List ℕ) (same : length ys ≡ length (last_row out count)) where
    pub row-length : length (take (length out - count) out ++ ys) ≡ length out
    row-length =
        length-append (take (length out - count) out) ys
        ∙ omega (arith, length-take-le (length out - count) out (omega arith), length-row)

    pub row_last : last_row (take (length out - count) out ++ ys) count ≡ ys
    row_last =
        rw row-length
        (drop_at (take (length out - count) out) ys (length out - count) (length-take-le (length out - count) out (omega arith)))

-- rows made from an empty output are none
no_rows : (half : ℕ) (moduli : List ℕ) → native_rows_at half moduli [] ≡ []
unfolding native_rows_at
no_rows half [] = refl
no_rows half (q ∷ moduli) = no_rows half moduli

pub spread_empty : (out : List ℕ) (count : ℕ) (moduli : List ℕ) → length out ≡ 0 → spread out count moduli ≡ []
unfolding spread_at
spread_empty [] count moduli e = go (eqb 0 (count * length moduli))
  where
    go : (b : Bool) → cond b (native_rows_at (2 ^ 63) moduli (last_row [] count)) [] ≡ []
    go true = ap (native_rows_at (2 ^ 63) moduli) (drop_of_length-le [] {i = 0 - count} zero-le) ∙ no_rows (2 ^ 63) moduli
    go false = refl
spread_empty (a ∷ out) count moduli e = absurd (omega arith)

-- a row is no longer than an output that has an element
pub row_fits : (n count rows : ℕ) → n ≡ count * rows → 0 < n → count ≤ n
row_fits n count zero e h = absurd (omega (arith, mul-zero count))
row_fits n count (suc rows) e h = omega (arith, mul-suc count rows)

-- the number, as it is tried
module _ (method : SamplingMethod) (words place n count : ℕ) (moduli : List ℕ) where
  pub tried_method : is_served method ≡ false → 21 ≡ crt_number method words place n count moduli
  unfolding first_of crt_number
  tried_method e = rw e

  pub tried_layout : is_served method ≡ true → (most k : ℕ) → most ≡ magnitude_of method
      → k ≡ first_of (past_end words place ∷ shape_number n count (length moduli) ∷ too_long n ∷ moduli_numbers most moduli)
      → k ≡ crt_number method words place n count moduli
  unfolding first_of crt_number
  tried_layout e most k m f = f ∙ rw (m, e)

module _ (method : SamplingMethod) (tables : Tables) (count : ℕ) (moduli words : List ℕ) (place : ℕ) (out : List ℕ) {k : ℕ}
    (e : k ≡ crt_number method (length words) place (length out) count moduli) where
  -- a number refuses
  pub method-refused : (k ≡ 0 → ⊥) → (answer : Answer) → answer ≡ refusal k place → outcome answer out ≡ crt_by method tables count moduli words place out
  unfolding crt_by judged
  method-refused h answer a = rw (a, ← e, ne_eqb k 0 h)

  -- none does
  pub method-drawn : k ≡ 0 → {last : ℕ} (answer : Answer) (ys : List ℕ) → last ≡ length out - count
      → outcome answer ys ≡ row_draw method tables words place (mid_of last (length out - last) out)
      → (o : Outcome ℕ) → o ≡ finished (put_mid last (length out - last) out ys) count moduli answer.number answer.place answer.index
      → o ≡ crt_by method tables count moduli words place out
  unfolding crt_by judged
  method-drawn z answer ys l drawn o f =
      f ∙ finished-lent out count moduli (row_draw method tables words place) answer ys l drawn ∙ rw (← e, eq-eqb k 0 z)
