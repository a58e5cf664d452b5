-- The plan of an insertion, whatever the output's type, and the numbers that refuse a draw with weights before it has one.
use Rattle.std.specs.Prelude.{ℕ, ◌+◌, ◌-◌, cond, ◌&&◌, [], ◌∷◌, ◌++◌, leb, replicate}
use Rattle.distr.specs.Rule.{Rule}
use Rattle.distr.specs.Insertion.{insertion}
use Rattle.distr.specs.Numbers.{first_of, past_end, too_long, bad_weight}
use Rattle.ternary.specs.declared.ternary.TernaryValue.{TernaryValue}
use Rattle.ternary.specs.declared.ternary.TernaryValue.TheVariants.{MinusOne, Zero, One}
use Rattle.ternary.specs.Sampler.{value_of}
use Rattle.fixed_weights.specs.declared.plans.Plan.{Plan}

-- "Fixed composition: the commonest value fills (ties: 0, then −1, then 1); the other two follow in that order."
abbrev pub composition_plan : ℕ → ℕ → ℕ → Plan
composition_plan minus ones n =
    let zeros = n - (minus + ones) in
    cond (leb minus zeros && leb ones zeros) (record { fill = Zero; first = MinusOne; firsts = minus; second = One; seconds = ones })
    (cond (leb ones minus) (record { fill = MinusOne; first = Zero; firsts = zeros; second = One; seconds = ones })
    (record { fill = One; first = Zero; firsts = zeros; second = MinusOne; seconds = minus }))

-- A plan that inserts one value alone: the second is 0, inserted no times.
abbrev pub only_first : TernaryValue → TernaryValue → ℕ → Plan
only_first fill first firsts = record { fill = fill; first = first; firsts = firsts; second = Zero; seconds = 0 }

-- "Fixed binary weight h: ones into zeros if h ≤ n−h, else zeros into ones."
abbrev pub binary_plan : ℕ → ℕ → Plan
binary_plan h n = cond (leb h (n - h)) (only_first Zero One h) (only_first One Zero (n - h))

-- How much is inserted by a plan, and its rule for n coefficients.
abbrev pub planned : Plan → ℕ
planned p = p.firsts + p.seconds

abbrev pub plan_rule : Plan → ℕ → Rule
plan_rule p n = insertion (value_of p.fill) (replicate p.firsts (value_of p.first) ++ replicate p.seconds (value_of p.second)) n

-- The number of a draw of n coefficients of which `weight` have a given value, before it looks at its words: 22, then 6, then 7; 0 is none.
abbrev pub weight_number : ℕ → ℕ → ℕ → ℕ → ℕ
weight_number word_count place n weight = first_of (past_end word_count place ∷ too_long n ∷ bad_weight weight n ∷ [])
