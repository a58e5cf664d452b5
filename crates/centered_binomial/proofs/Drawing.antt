-- A draw of the centered binomial, past the test of its parameters, over any element type: coefficients are held one by one, by f.
use mathlib.Core.Path.{◌≡◌, refl, sym, ◌∙◌}
use mathlib.Core.Bool.{Bool, true, cond}
use mathlib.Core.List.{List, map}
use Prim.Native.Nat.{ℕ, ◌+◌, ◌*◌, ◌^◌, ◌<◌}
use lib.Dec.{eqb, lit<}
use lib.ListN.{length, get_or, drop, replicate}
use lib.IntN.{ℤ, pos}
use Rattle.distr.specs.declared.answer.Answer.{Answer}
use Rattle.distr.specs.declared.refusal.Refusal.{Refusal}
use Rattle.distr.specs.Answers.{success, refusal}
use Rattle.distr.specs.CenteredBinomial.{binomial_value}
use Rattle.distr.specs.Draw.{outcome}
use Rattle.distr.specs.Refusals.{number}
use Rattle.distr.specs.Words.{got}
use Rattle.numbers.specs.Answering.{wide_read, answer_of}
use Rattle.numbers.proofs.WideDraws.{refuses_draw, ends_read}
use Rattle.centered_binomial.specs.declared.CenteredBinomialParameters.{CenteredBinomialParameters}
use Rattle.centered_binomial.specs.Binomial.{is_made_binomial, binomial_draw}

-- the parameters s have passed the test
module _ (s : CenteredBinomialParameters) {passed : Bool} (told : passed ≡ is_made_binomial s) (good : passed ≡ true) where
  pub made : is_made_binomial s ≡ true
  made = sym told ∙ good

  -- what the output holds then; z is the zero that is written where a word is missing
  module _ {A : Type 0} {hold : List ℤ → List A} {f : ℤ → A} (each : (cs : List ℤ) → hold cs ≡ map f cs) {z : A} (zero-held : f (pos 0) ≡ z)
      (words : List ℕ) (place : ℕ) (out : List A) {a : Answer} {final : List A} where
    pub binomial_refused : (why : Refusal) → refusal (number why) place ≡ answer_of 0 true (length words) place (length out) → a ≡ refusal (number why) place
        → final ≡ cond (eqb (number why) 23) (replicate (length out) z) out → outcome a final ≡ binomial_draw hold s words place out
    binomial_refused why e is written =
        rw made (refuses_draw hold f each zero-held 0 (lit< tt) words place out (pos 0) (binomial_value s.eta) _ true refl why e is written)

    -- by the loop over the words
    pub binomial_read : {after : ℕ} → success after ≡ answer_of 0 true (length words) place (length out) → a ≡ success after
        → ((i : ℕ) → get_or words i 0 < 2 ^ 32)
        → wide_read (λ w. f (binomial_value s.eta w)) (length out) (drop place words) ≡ got final (drop (place + 2 * length out) words)
        → outcome a final ≡ binomial_draw hold s words place out
    binomial_read e is bounded h =
        rw made (ends_read hold f each zero-held 0 (lit< tt) words place out (pos 0) (binomial_value s.eta) _ true refl e is refl bounded h)
