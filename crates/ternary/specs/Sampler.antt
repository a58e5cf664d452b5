-- A prepared ternary sampler: what the thresholds prepare, and the rule that it draws by.
use Rattle.std.specs.Prelude.{ℕ, ◌+◌, ◌^◌, Bool, cond, true, false, List, ltb, eqb, length, ℤ, pos}
use mir.Val.{bool_byte}
use Rattle.distr.specs.Rule.{Rule, constant, wide_words}
use Rattle.distr.specs.Packed.{minus_one}
use Rattle.distr.specs.Thresholds.{nonzero_end, ternary_value}
use Rattle.distr.specs.Draw.{Outcome, rule_draw}
use Rattle.ternary.specs.declared.ternary.TernaryValue.{TernaryValue}
use Rattle.ternary.specs.declared.ternary.TernaryValue.TheVariants.{MinusOne, Zero, One}
use Rattle.ternary.specs.declared.ternary.TernaryEnds.{TernaryEnds}
use Rattle.ternary.specs.declared.ternary.TernaryEnds.TheVariants.{Constant, Nonzero, General}
use Rattle.ternary.specs.declared.ternary.Plan.{Plan}
use Rattle.ternary.specs.declared.ternary.Plan.TheVariants as plan
use Rattle.ternary.specs.declared.ternary.WordPlan.{WordPlan}

abbrev pub value_of : TernaryValue → ℤ
value_of MinusOne = minus_one
value_of Zero = pos 0
value_of One = pos 1

-- The rule of a sampler for n coefficients: a constant, or "a 64-bit word below N is −1, below E is 1, else 0".
unfoldable pub sampler_rule : TernaryEnds → ℕ → Rule
sampler_rule (Constant v) n = constant (value_of v) n
sampler_rule (Nonzero N) n = wide_words n (ternary_value N (2 ^ 64))
sampler_rule (General N E) n = wide_words n (ternary_value N E)

-- The whole answer of a draw by a sampler into an output, `write` what it holds for coefficients.
abbrev pub sampler_draw : {A : Type 0} → (List ℤ → List A) → TernaryEnds → List ℕ → ℕ → List A → Outcome A
sampler_draw write ends words place out = rule_draw write 0 (sampler_rule ends (length out)) words place out

-- The sampler of two thresholds, -1 and 1: "N = 2^64, E = 0, P = 2^64 are tried in this order".
unfoldable pub sampler_of : ℕ → ℕ → TernaryEnds
sampler_of N P =
    cond (eqb N (2 ^ 64)) (Constant MinusOne)
    (cond (eqb (nonzero_end N P) 0) (Constant Zero)
    (cond (eqb P (2 ^ 64)) (Constant One)
    (cond (eqb (nonzero_end N P) (2 ^ 64)) (Nonzero N) (General N (nonzero_end N P)))))

-- What a sampler does, whatever the type of its output: one value throughout, or what stands above the first end, and the two ends. Where no
-- word gives 0 none is below the second end, and 1 stands above it.
unfoldable pub plan_of : TernaryEnds → Plan
plan_of (Constant v) = plan.Constant v
plan_of (Nonzero N) = plan.Read (record { above = 1; first_end = N; second_end = 0 })
plan_of (General N E) = plan.Read (record { above = 0; first_end = N; second_end = E })

-- Whether it reads words.
abbrev pub reads : Plan → Bool
reads (plan.Constant v) = false
reads (plan.Read p) = true

-- What a plan gives for a 64-bit word.
unfoldable pub plan_value : WordPlan → ℕ → ℤ
plan_value p w = cond (ltb w p.first_end) minus_one (pos (p.above + bool_byte (ltb w p.second_end)))
