-- A cumulative draw by its answer, whatever its output holds for a coefficient: the table's number is the draw's own.
use mathlib.Core.Path.{◌≡◌, refl}
use mathlib.Core.Bool.{Bool, true, false, not, cond}
use mathlib.Core.List.{List, map}
use Prim.Native.Nat.{ℕ, ◌+◌, ◌*◌, ◌^◌, ◌<◌, ◌≤◌}
use native.Mathlib.Omega.{arith}
use lib.Dec.{eqb, lit<}
use lib.ListN.{length, get_or, drop, replicate}
use lib.IntN.{ℤ, pos}
use Rattle.distr.specs.declared.answer.Answer.{Answer}
use Rattle.distr.specs.declared.refusal.Refusal.{Refusal}
use Rattle.distr.specs.Answers.{success, refusal}
use Rattle.distr.specs.Refusals.{number}
use Rattle.distr.specs.Words.{got}
use Rattle.distr.specs.Constants.{invalid_cumulative_table, out_of_words}
use Rattle.distr.specs.Gaussian.{cumulative_table, cumulative_value}
use Rattle.distr.specs.Making.{refuse}
use Rattle.distr.specs.Draw.{outcome}
use Rattle.numbers.specs.Answering.{wide_read, answer_of}
use Rattle.numbers.proofs.WideNumbers.{answer_free, answer-enough}
use Rattle.numbers.proofs.WideDraws.{refuses_draw, ends_read}
use Rattle.cdt.specs.Drawn.{cumulative_number, cumulative_draw}

-- the number of a table is below 23, and a table without one is good
table-low : (ok : Bool) → refuse (not ok) invalid_cumulative_table < out_of_words
table-low true = lit< tt
table-low false = lit< tt

table-good : (ok : Bool) → refuse (not ok) invalid_cumulative_table ≡ 0 → ok ≡ true
table-good true z = refl
table-good false z = absurd (omega arith)

-- the table's number k, where the draw ends or what refuses it, the answer a, and what the output holds then
module _ {A : Type 0} (write : List ℤ → List A) (f : ℤ → A) (each : (cs : List ℤ) → write cs ≡ map f cs) {z : A} (zero-held : f (pos 0) ≡ z) (M : ℕ)
    (bounds words : List ℕ) (place : ℕ) (out : List A) {k : ℕ} (own : k ≡ cumulative_number M bounds) where
  abbrev asked : ℕ
  asked = cumulative_number M bounds

  abbrev n : ℕ
  n = length out

  abbrev told : Answer
  told = answer_of k true (length words) place n

  pub cdt_ready : {after : ℕ} → success after ≡ told → (cumulative_table M bounds ≡ true) × (place + 2 * n ≤ length words)
  cdt_ready {after} d = (
    table-good (cumulative_table M bounds) (answer_free asked (length words) place n {a = success after} (rw own at d) refl),
    answer-enough asked (length words) place n {a = success after} (rw own at d) refl,
  )

  module _ {final : List A} {a : Answer} where
    pub cdt_refused : (why : Refusal) → refusal (number why) place ≡ told → a ≡ refusal (number why) place
        → final ≡ cond (eqb (number why) out_of_words) (replicate n z) out → outcome a final ≡ cumulative_draw write M bounds words place out
    cdt_refused why d =
        refuses_draw write f each zero-held asked (table-low (cumulative_table M bounds)) words place out (pos 0) (cumulative_value M bounds) _ true refl
        why (rw own at d)

    pub cdt_read : {after : ℕ} → success after ≡ told → a ≡ success after → ((i : ℕ) → get_or words i 0 < 2 ^ 32)
        → wide_read (λ w. f (cumulative_value M bounds w)) n (drop place words) ≡ got final (drop (place + 2 * n) words)
        → outcome a final ≡ cumulative_draw write M bounds words place out
    cdt_read d is =
        ends_read write f each zero-held asked (table-low (cumulative_table M bounds)) words place out (pos 0) (cumulative_value M bounds) _ true refl
        (rw own at d) is refl
