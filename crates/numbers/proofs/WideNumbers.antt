-- The number of a draw by its tests, and what holds where it is 0.
use mathlib.Core.Path.{◌≡◌, refl, sym, ap, ◌∙◌}
use mathlib.Core.Bool.{Bool, true, false, ◌&&◌}
use mathlib.Core.List.{[], ◌∷◌}
use Prim.Native.Nat.{ℕ, zero, suc, ◌+◌, ◌*◌, ◌-◌, ◌<◌, ◌≤◌}
use native.Mathlib.Omega.{arith}
use borrow.Author.Tests.{ltb-false, lt-ltb, le-ltb, ne_eqb}
use lib.Dec.{ltb, lit<}
use Rattle.distr.specs.declared.answer.Answer.{Answer}
use Rattle.distr.specs.Answers.{success, refusal}
use Rattle.distr.specs.Making.{refuse}
use Rattle.distr.specs.Numbers.{first_of, past_end, too_long}
use Rattle.distr.proofs.Drawing.{first-joined}
use Rattle.numbers.proofs.Refusing.{draw_number, number_passed}
use Rattle.numbers.specs.Answering.{number_of, answer_of}

-- by the first number that refuses, and by whether words are lacking
abbrev pub by : ℕ → Bool → ℕ
by k lacking = first_of (k ∷ refuse lacking 23 ∷ [])

-- none but a lack of words is 23
pub draw-low : (count place n own : ℕ) → own < 23 → draw_number count place n own < 23
unfolding first_of
draw-low count place n own low = go (ltb count place) (ltb 65536 n) own low
  where
    go : (past long : Bool) (k : ℕ) → k < 23 → first_of (refuse past 22 ∷ refuse long 6 ∷ k ∷ []) < 23
    go true long k h = lit< tt
    go false true k h = lit< tt
    go false false zero h = lit< tt
    go false false (suc k) h = h

module _ (own : ℕ) (reads : Bool) (count place n : ℕ) where
  pub number_by : (k : ℕ) (lacking : Bool) → k ≡ draw_number count place n own → (reads && ltb (count - place) (2 * n)) ≡ lacking
      → by k lacking ≡ number_of own reads count place n
  unfolding number_of
  number_by k lacking e h = rw (e, ← h) (first-joined (past_end count place ∷ too_long n ∷ own ∷ []) (refuse (reads && ltb (count - place) (2 * n)) 23 ∷ []))

  -- a number that is not 0 is the answer's
  pub answer-refused : (k : ℕ) → k ≡ draw_number count place n own → (k ≡ 0 → ⊥) → refusal k place ≡ answer_of own reads count place n
  unfolding first_of
  answer-refused zero e z = absurd (z refl)
  answer-refused (suc k) e z = rw (← number_by (suc k) _ e refl, ne_eqb (suc k) 0 z)

  -- without one: nothing to read, too few words, or as many as are needed
  module _ (none : 0 ≡ draw_number count place n own) where
    pub answer-constant : reads ≡ false → success place ≡ answer_of own reads count place n
    unfolding first_of
    answer-constant r = rw (← number_by 0 false none (rw r), r)

    pub answer-short : reads ≡ true → count - place < 2 * n → refusal 23 place ≡ answer_of own reads count place n
    unfolding first_of
    answer-short r h = rw (← number_by 0 true none (rw (r, lt-ltb (count - place) (2 * n) h)))

    pub answer_read : reads ≡ true → 2 * n ≤ count - place → success (place + 2 * n) ≡ answer_of own reads count place n
    unfolding first_of
    answer_read r h = rw (← number_by 0 false none (rw (r, le-ltb (count - place) (2 * n) h)), r)

-- where the number is 0 the draw's own is, and the words of a draw that reads are there
module _ (own count place n : ℕ) {a : Answer} (d : a ≡ answer_of own true count place n) (z : a.number ≡ 0) where
  cases : (own ≡ 0) × (place + 2 * n ≤ count)
  unfolding first_of
  cases =
      go (draw_number count place n own) (ltb (count - place) (2 * n)) refl refl
      (number_by own true count place n _ _ refl refl ∙ sym (ap (λ (b : Answer). b.number) d) ∙ z)
    where
      go : (k : ℕ) (lacking : Bool) → k ≡ draw_number count place n own → ltb (count - place) (2 * n) ≡ lacking → by k lacking ≡ 0
          → (own ≡ 0) × (place + 2 * n ≤ count)
      go (suc k) lacking e h q = absurd (omega arith)
      go zero true e h q = absurd (omega arith)
      go zero false e h q =
          let good = number_passed count place n own e refl in
          (good.2, omega (arith, good.0, ltb-false (count - place) (2 * n) h))

  pub answer_free : own ≡ 0
  answer_free = cases.0

  pub answer-enough : place + 2 * n ≤ count
  answer-enough = cases.1
