-- A draw of signs at chosen places is the draw by the rule of a fixed ternary weight. Its number is that of one weight alone, the second being 0.
use mathlib.Core.Path.{◌≡◌, refl, ◌∙◌}
use mathlib.Core.List.{List}
use Prim.Native.Nat.{ℕ, ◌+◌, ◌^◌, ◌<◌, ◌≤◌}
use native.Mathlib.Nat.{add-zero}
use native.Mathlib.Omega.{arith}
use borrow.Author.Tests.{eq-eqb, ne_eqb}
use lib.ListN.{length, drop}
use lib.IntN.{ℤ}
use Rattle.distr.specs.Rule.{Rule, read_by}
use Rattle.distr.specs.Packed.{signs_alone}
use Rattle.distr.specs.Insertion.{signed_insertion, fixed_ternary_weight}
use Rattle.distr.specs.Constants.{output_limit}
use Rattle.distr.specs.Numbers.{bad_weight}
use Rattle.distr.specs.declared.answer.Answer.{Answer}
use Rattle.distr.specs.declared.refusal.Refusal.{Refusal}
use Rattle.distr.specs.Answers.{refusal, sums, reported}
use Rattle.distr.specs.Refusals.{number}
use Rattle.distr.specs.Skipped.{nothing}
use Rattle.distr.specs.Draw.{Outcome, outcome, settled, rule_draw}
use Rattle.numbers.proofs.Refusing.{rule-passed}
use Rattle.fixed_weights.specs.Plans.{weight_number}
use Rattle.fixed_weights.proofs.Judging.{not_heavy, number_there, number_limited, number_light, weight_refused}

module _ (word_count place n weight : ℕ) {k : ℕ} (number : k ≡ weight_number word_count place n (weight + 0)) where
  lone : k ≡ weight_number word_count place n weight
  lone = rw (add-zero weight) at number

module _ (word_count place n weight : ℕ) (passed : 0 ≡ weight_number word_count place n (weight + 0)) where
  pub weight_light : weight ≤ n
  weight_light = number_light word_count place n weight (lone word_count place n weight passed)

  pub weight_there : place ≤ word_count
  weight_there = number_there word_count place n weight (lone word_count place n weight passed)

  pub weight_limited : n ≤ output_limit
  weight_limited = number_limited word_count place n weight (lone word_count place n weight passed)

module _ {A : Type 0} (hold : List ℤ → List A) (words : List ℕ) (place weight : ℕ) (out : List A) where
  pub lone_refused : (rule : Rule) (why : Refusal) {answer : Answer} → number why ≡ weight_number (length words) place (length out) (weight + 0)
      → answer ≡ refusal (number why) place → outcome answer out ≡ rule_draw hold (bad_weight weight (length out)) rule words place out
  lone_refused rule why e is = weight_refused hold rule words place weight out why (lone (length words) place (length out) weight e) is

  -- fewer signs than places
  pub signs_draw : {o : Outcome A} → 0 ≡ weight_number (length words) place (length out) (weight + 0) → (weight ≡ length out → ⊥)
      → o ≡ settled hold (length words) place (length out) (read_by (signed_insertion weight (length out)) (drop place words))
      → o ≡ rule_draw hold (bad_weight weight (length out)) (fixed_ternary_weight weight (length out)) words place out
  signs_draw passed ne e =
      e
      ∙ rule-passed hold (bad_weight weight (length out)) words place out (lone (length words) place (length out) weight passed)
      (signed_insertion weight (length out)) refl
      ∙ rw (ne_eqb weight (length out) ne)

-- a sign at every place; an output has less than 2^64 of them
pub all_signs_draw : {A : Type 0} (hold : List ℤ → List A) {o : Outcome A} (words : List ℕ) (place weight : ℕ) (out : List A)
    → weight < 2 ^ 64 → weight ≡ length out → o ≡ rule_draw hold 0 (signs_alone (length out)) words place out
    → o ≡ rule_draw hold (bad_weight weight (length out)) (fixed_ternary_weight weight (length out)) words place out
all_signs_draw hold words place weight out l e q = rw (not_heavy weight (length out) (omega arith) (omega arith), eq-eqb weight (length out) e) q

-- what each of the two skips: signs alone nothing, insertions what their choices pass over
module _ (words : List ℕ) (place weight n : ℕ) (answer : Answer) where
  pub all_signs_skip : weight ≡ n → sums answer ≡ reported answer.number nothing
      → sums answer ≡ reported answer.number ((fixed_ternary_weight weight n).skips (drop place words))
  all_signs_skip e told = rw (eq-eqb weight n e) told

  pub signs_skip : (weight ≡ n → ⊥) → sums answer ≡ reported answer.number ((signed_insertion weight n).skips (drop place words))
      → sums answer ≡ reported answer.number ((fixed_ternary_weight weight n).skips (drop place words))
  signs_skip ne told = rw (ne_eqb weight n ne) told
