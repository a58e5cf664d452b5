-- A draw with weights: its numbers decide, and where they pass it is what its rule's reading settles.
use mathlib.Core.Path.{◌≡◌, refl}
use mathlib.Core.List.{List}
use Prim.Native.Nat.{ℕ, ◌-◌, ◌^◌, ◌<◌, ◌≤◌}
use native.Mathlib.Omega.{arith}
use borrow.Author.Tests.{le-ltb}
use lib.ListN.{length}
use lib.IntN.{ℤ}
use Rattle.distr.specs.Constants.{output_limit}
use Rattle.distr.specs.Numbers.{bad_weight}
use Rattle.distr.specs.Rule.{Rule}
use Rattle.distr.specs.declared.answer.Answer.{Answer}
use Rattle.distr.specs.declared.refusal.Refusal.{Refusal}
use Rattle.distr.specs.Answers.{refusal}
use Rattle.distr.specs.Refusals.{number}
use Rattle.distr.specs.Draw.{outcome, rule_draw}
use Rattle.distr.proofs.Drawing.{weight_fits}
use Rattle.distr.proofs.Refusals.{refuses}
use Rattle.numbers.proofs.Refusing.{number_passed, rule-refused}
use Rattle.fixed_weights.specs.Plans.{weight_number}

-- a weight that fits is not refused
pub not_heavy : (weight n : ℕ) → weight ≤ n → n < 2 ^ 64 → bad_weight weight n ≡ 0
not_heavy weight n h l = rw (le-ltb n weight h, le-ltb (2 ^ 64 - 1) weight (omega arith))

-- what the number says where it lets a draw pass
module _ (word_count place n weight : ℕ) (passed : 0 ≡ weight_number word_count place n weight) where
  good : (place ≤ word_count) × (n ≤ 65536) × (bad_weight weight n ≡ 0)
  good = number_passed word_count place n (bad_weight weight n) passed refl

  pub number_there : place ≤ word_count
  number_there = good.0

  pub number_limited : n ≤ output_limit
  number_limited = good.1

  pub number_light : weight ≤ n
  number_light = weight_fits weight n good.2

-- and where it refuses the draw, whatever its rule
pub weight_refused : {A : Type 0} (hold : List ℤ → List A) (rule : Rule) (words : List ℕ) (place weight : ℕ) (out : List A) (why : Refusal) {answer : Answer}
    → number why ≡ weight_number (length words) place (length out) weight → answer ≡ refusal (number why) place
    → outcome answer out ≡ rule_draw hold (bad_weight weight (length out)) rule words place out
weight_refused hold rule words place weight out why e is =
    rw is (rule-refused hold (bad_weight weight (length out)) words place out e rule (refuses why))
