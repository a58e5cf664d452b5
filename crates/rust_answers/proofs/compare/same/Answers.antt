-- Lists of two lengths differ; a turn takes a number from both.
use Rattle.std.proofs.Common.{◌≡◌, ℕ, suc, ◌≤◌, false, ◌&&◌, eqb, List, [], ◌∷◌, length, get_or, drop, sym, refl, ap, ◌∙◌, ap₂, add-one, arith, drop_of_length-le, drop-cons}
use mathlib.Core.Bool.{and_assoc, and-true, and-false}
use Rattle.rust_answers.specs.Answer.{same}
use Rattle.rust_answers.proofs.compare.same.Goals as goal

-- lists of two lengths are not the same
different : (a b : List ℕ) → (length a ≡ length b → ⊥) → same a b ≡ false
unfolding same
different [] [] h = absurd (h refl)
different [] (y ∷ b) h = refl
different (x ∷ a) [] h = refl
different (x ∷ a) (y ∷ b) h = ap (λ t. eqb x y && t) (different a b (λ e. h (ap suc e))) ∙ and-false (eqb x y)

pub returns-then-a-b : goal.returns-then-a-b
returns-then-a-b c = sym (different c.args.a.now c.args.b.now c.if-a-b.true)

pub loop-i-init : goal.loop-i-init
loop-i-init c = (omega (arith, c.if-a-b.false), refl)

pub loop-i-preserved : goal.loop-i-preserved
unfolding same
loop-i-preserved c =
    let a = c.args.a.now in
    let b = c.args.b.now in
    let i = c.loop-i.i in
    let after = same (drop (suc i) a) (drop (suc i) b) in (
      c.loop-i.invariant.0,
      rw (add-one i)
          (and_assoc c.loop-i.equal (eqb (get_or a i 0) (get_or b i 0)) after
          ∙ ap₂ (λ l m. c.loop-i.equal && same l m) (sym (drop-cons a i 0 c.loop-i-test.true)) (sym (drop-cons b i 0 (omega arith)))
          ∙ c.loop-i.invariant.1),
    )

pub returns : goal.returns
unfolding same
returns c =
    let a = c.args.a.now in
    let b = c.args.b.now in
    let done : length b ≤ c.loop-i.i = omega arith in
    sym (and-true c.loop-i.equal) ∙ (rw (drop_of_length-le a c.loop-i-test.false, drop_of_length-le b done) at c.loop-i.invariant.1)
