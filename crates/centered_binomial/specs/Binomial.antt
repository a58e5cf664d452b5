-- The prepared state of the centered binomial: what making gives, and the whole answer of its draws.
use Rattle.std.specs.Prelude.{ℕ, ◌+◌, ◌*◌, ◌-◌, ◌^◌, ◌≤◌, ◌≡◌, Bool, true, cond, ◌&&◌, List, eqb, length, ℤ, Result, Ok, Err}
use Rattle.distr.specs.declared.error_distribution.ErrorDistribution.TheVariants.{CenteredBinomial as BinomialOf}
use Rattle.distr.specs.declared.refusal.Refusal.{Refusal}
use Rattle.distr.specs.declared.refusal.Refusal.TheVariants as Why
use Rattle.distr.specs.Making.{error_number}
use Rattle.distr.specs.CenteredBinomial.{centered_binomial}
use Rattle.distr.specs.Constants.{never_made}
use Rattle.distr.specs.Answers.{refusal}
use Rattle.distr.specs.Draw.{Outcome, outcome, rule_draw}
use Rattle.centered_binomial.specs.declared.CenteredBinomialParameters.{CenteredBinomialParameters}

-- "Eta outside 1..32" is number 4.
abbrev pub eta_number : ℕ → ℕ
eta_number eta = error_number (BinomialOf eta)

-- The parameters of an eta: the mask has its eta lowest bits set.
abbrev pub parameters_of : ℕ → CenteredBinomialParameters
parameters_of eta = record { eta = eta; mask = 2 ^ eta - 1 }

-- What making hands back: the parameters, where the number is 0.
abbrev pub making : ℕ → Result CenteredBinomialParameters Refusal
making eta = cond (eqb (eta_number eta) 0) (Ok (parameters_of eta)) (Err Why.InvalidEta)

-- Making gives these parameters.
abbrev pub is_made_binomial : CenteredBinomialParameters → Bool
is_made_binomial s = eqb (eta_number s.eta) 0 && eqb s.mask (2 ^ s.eta - 1)

-- A draw into the whole output: 21 for parameters that making never gives, then 22, 6, 23 or success by the rule.
abbrev pub binomial_draw : {A : Type 0} → (List ℤ → List A) → CenteredBinomialParameters → List ℕ → ℕ → List A → Outcome A
binomial_draw write s words place out =
    cond (is_made_binomial s) (rule_draw write 0 (centered_binomial s.eta (length out)) words place out)
    (outcome (refusal never_made place) out)

-- The mask of "the next eta bits".
abbrev pub upper_mask : CenteredBinomialParameters → ℕ
upper_mask s = s.mask * 2 ^ s.eta

-- What the loops start from: parameters that making gives, and the words for n coefficients are there.
pub record Ready (s : CenteredBinomialParameters) (n count place : ℕ) : Type 0 where
  pub made : is_made_binomial s ≡ true
  pub enough : place + 2 * n ≤ count
