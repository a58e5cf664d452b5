-- `argument::is_skipped` compares seven bytes, and is false of any other number of them.
use mathlib.Core.Path.{◌≡◌, refl, sym, ap, ◌∙◌}
use mathlib.Core.Bool.{Bool, true, false, ◌&&◌, and-false}
use mathlib.Core.List.{List, [], ◌∷◌}
use Prim.Native.Nat.{ℕ, suc}
use native.Mathlib.Omega.{arith}
use borrow.Author.Rules.{rules}
use lib.Dec.{eqb}
use lib.ListN.{length, get_or}
use Rattle.sheet.specs.Argument.{same_bytes, skipped_word}
use Rattle.sheet.proofs.argument.is_skipped.Statement.{statement}
use Rattle.sheet.proofs.argument.is_skipped.Tie as tie

-- lists of two lengths are not the same
different : (xs ys : List ℕ) → (length xs ≡ length ys → ⊥) → same_bytes xs ys ≡ false
unfolding same_bytes
different [] [] h = absurd (h refl)
different [] (y ∷ ys) h = refl
different (x ∷ xs) [] h = refl
different (x ∷ xs) (y ∷ ys) h = ap (λ t. eqb x y && t) (different xs ys (λ e. h (ap suc e))) ∙ and-false (eqb x y)

-- seven tests, as the code and as the definition groups them
grouped : (a b c d e f g : Bool) → (a && b && c && d && e && f && g) ≡ (a && (b && (c && (d && (e && (f && (g && true)))))))
grouped false b c d e f g = refl
grouped true false c d e f g = refl
grouped true true false d e f g = refl
grouped true true true false e f g = refl
grouped true true true true false f g = refl
grouped true true true true true false g = refl
grouped true true true true true true false = refl
grouped true true true true true true true = refl

seven : (l : List ℕ) → length l ≡ 7
    → (eqb (get_or l 0 0) 115 && eqb (get_or l 1 0) 107 && eqb (get_or l 2 0) 105 && eqb (get_or l 3 0) 112 && eqb (get_or l 4 0) 112
    && eqb (get_or l 5 0) 101 && eqb (get_or l 6 0) 100)
    ≡ same_bytes l skipped_word
unfolding same_bytes
seven [] h = absurd (omega (arith, h))
seven (a ∷ []) h = absurd (omega (arith, h))
seven (a ∷ b ∷ []) h = absurd (omega (arith, h))
seven (a ∷ b ∷ c ∷ []) h = absurd (omega (arith, h))
seven (a ∷ b ∷ c ∷ d ∷ []) h = absurd (omega (arith, h))
seven (a ∷ b ∷ c ∷ d ∷ e ∷ []) h = absurd (omega (arith, h))
seven (a ∷ b ∷ c ∷ d ∷ e ∷ f ∷ []) h = absurd (omega (arith, h))
seven (a ∷ b ∷ c ∷ d ∷ e ∷ f ∷ g ∷ []) h = grouped (eqb a 115) (eqb b 107) (eqb c 105) (eqb d 112) (eqb e 112) (eqb f 101) (eqb g 100)
seven (a ∷ b ∷ c ∷ d ∷ e ∷ f ∷ g ∷ x ∷ l) h = absurd (omega (arith, h))

returns : tie.Need-returns-then-word-ne7
returns c = sym (different c.before.args.word.now skipped_word c.if-word-ne7.true)

returns-2 : tie.Need-returns
returns-2 c =
    let fourth = c.before.before.before in
    let test = fourth.before.before.before.before in
    seven test.before.args.word.now test.if-word-ne7.false

pub is_skipped_spec : {M : Type 1} → statement M
is_skipped_spec =
    tie.close
    (tie.spec returns (λ c. search rules) (λ c. search rules) (λ c. search rules) (λ c. search rules) (λ c. search rules) (λ c. search rules)
    (λ c. search rules) returns-2)
