-- A draw by a plan is the draw by its rule: what a caller learns of a plan that is handed back.
use mathlib.Core.Path.{◌≡◌, refl, ap, ◌∙◌}
use mathlib.Core.List.{List}
use Prim.Native.Nat.{ℕ, ◌≤◌}
use lib.ListN.{length, drop}
use lib.IntN.{ℤ}
use Rattle.distr.specs.Rule.{Rule, read_by}
use Rattle.distr.specs.Numbers.{bad_weight}
use Rattle.distr.specs.declared.answer.Answer.{Answer}
use Rattle.distr.specs.Answers.{sums, reported}
use Rattle.distr.specs.Draw.{Outcome, settled, rule_draw}
use Rattle.numbers.proofs.Refusing.{rule-passed}
use Rattle.fixed_weights.specs.declared.plans.Plan.{Plan}
use Rattle.fixed_weights.specs.Plans.{planned, plan_rule, weight_number}
use Rattle.fixed_weights.proofs.Judging.{number_light}
use Rattle.fixed_weights.proofs.PlanRules.{Planned}

-- the plan that is handed back is the one meant, of a rule
module _ (word_count place n weight : ℕ) (p : Plan) (rule : Rule) (of-rule : weight ≤ n → Planned rule n p) (q : Plan)
    (passed : 0 ≡ weight_number word_count place n weight) (same : q ≡ p) where
  plan_is : Planned rule n q
  plan_is = rw same (of-rule (number_light word_count place n weight passed))

  pub plan_room : planned q ≤ n
  plan_room = plan_is.room

  -- what its choices pass over is what its rule skips
  pub plan_skips : (words : List ℕ) (answer : Answer) → sums answer ≡ reported answer.number ((plan_rule q n).skips (drop place words))
      → sums answer ≡ reported answer.number (rule.skips (drop place words))
  plan_skips words answer e = e ∙ ap (λ (r : Rule). reported answer.number (r.skips (drop place words))) plan_is.same

pub plan_draws : {A : Type 0} (hold : List ℤ → List A) (rule : Rule) (words : List ℕ) (place weight : ℕ) (out : List A) (p q : Plan) {o : Outcome A}
    → (weight ≤ length out → Planned rule (length out) p) → 0 ≡ weight_number (length words) place (length out) weight → q ≡ p
    → o ≡ settled hold (length words) place (length out) (read_by (plan_rule q (length out)) (drop place words))
    → o ≡ rule_draw hold (bad_weight weight (length out)) rule words place out
plan_draws hold rule words place weight out p q of-rule passed same e =
    e
    ∙ ap (λ (r : Rule). settled hold (length words) place (length out) (read_by r (drop place words)))
    (plan_is (length words) place (length out) weight p rule of-rule q passed same).same
    ∙ rule-passed hold (bad_weight weight (length out)) words place out passed rule refl
