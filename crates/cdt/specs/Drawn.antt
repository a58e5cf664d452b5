-- The whole answer of a cumulative draw.
use Rattle.std.specs.Prelude.{not, List, ℕ, length, ℤ}
use Rattle.distr.specs.Constants.{invalid_cumulative_table}
use Rattle.distr.specs.Gaussian.{cumulative, cumulative_table}
use Rattle.distr.specs.Making.{refuse}
use Rattle.distr.specs.Draw.{Outcome, rule_draw}

-- "12 cumulative table malformed, its length included."
abbrev pub cumulative_number : ℕ → List ℕ → ℕ
cumulative_number M bounds = refuse (not (cumulative_table M bounds)) invalid_cumulative_table

-- A draw by the table, which is judged first; `write` is what the output holds for coefficients.
abbrev pub cumulative_draw : {A : Type 0} → (List ℤ → List A) → ℕ → List ℕ → List ℕ → ℕ → List A → Outcome A
cumulative_draw write M bounds words place out = rule_draw write (cumulative_number M bounds) (cumulative M bounds (length out)) words place out
