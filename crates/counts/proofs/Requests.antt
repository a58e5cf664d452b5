-- Every accepted request is counted: exactly the formula's number of draw lists give a coefficient list inside the distribution, none gives
-- another, every draw list is carried by some words, and whatever is read is a draw list.
use mathlib.Core.Path.{◌≡◌}
use mathlib.Core.Bool.{Bool, true, false, not, cond, ◌&&◌, ◌||◌}
use mathlib.Core.List.{[], ◌∷◌}
use Prim.Native.Nat.{ℕ, zero, suc, ◌+◌, ◌%◌, ◌≤◌, ◌<◌}
use native.Mathlib.Omega.{arith}
use lib.Dec.{T, leb, ltb, eqb, eqb→eq, nltb→le, leb→le}
use lib.Ieee.{Float, binary64, sub, lt}
use lib.Ieee.Fits.{and_r}
use Rattle.distr.specs.declared.secret_key_distr.SecretKeyDistr.{SecretKeyDistr}
use Rattle.distr.specs.declared.secret_key_distr.SecretKeyDistr.TheVariants.{UniformBinary, Binary, SparseTernary, UniformTernary, Ternary, FixedHammingWeightBinary, BlockBinary, FixedHammingWeightTernary, FixedCompositionTernary, Gaussian}
use Rattle.distr.specs.declared.error_distribution.ErrorDistribution.{ErrorDistribution}
use Rattle.distr.specs.declared.error_distribution.ErrorDistribution.TheVariants.{CenteredBinomial, Gaussian as ErrorGaussian}
use Rattle.distr.specs.Thresholds.{threshold}
use Rattle.distr.specs.Constants.{literal, cumulative_limit}
use Rattle.distr.specs.Gaussian.{support, cumulative_table}
use Rattle.distr.specs.Distribution.{Distr, secret, error, Tables, on_deviation, is_layered, secret_rule, error_rule, rule}
use Rattle.distr.specs.Making.{refuse, bad_probability, bad_probabilities, bad_block, secret_number, error_number, making_number}
use Rattle.distr.specs.Numbers.{first_of, too_long, length_number, layer_number, gaussian_table, table_number, signed_numbers}
use Rattle.distr.proofs.Drawing.{first-passed, weight_fits}
use Rattle.counts.specs.Inside.{inside_secret, inside}
use Rattle.counts.specs.Formula.{secret_formula, formula}
use Rattle.counts.proofs.Exact.{Counted}
use Rattle.counts.proofs.FixedComposition.{composition_counted}
use Rattle.counts.proofs.FixedWeights.{binary_weight_counted, ternary_weight_counted}
use Rattle.distr.proofs.Probabilities.{threshold-le}
use Rattle.counts.proofs.Thresholds.{binary-counted, ternary-counted}
use Rattle.counts.proofs.Blocks.{block-binary-counted}
use Rattle.counts.proofs.Cumulative.{cumulative-counted}
use Rattle.counts.proofs.Packed.{uniform_binary-counted, sparse_ternary-counted}
use Rattle.counts.proofs.UniformTernary.{uniform_ternary-counted}
use Rattle.counts.proofs.CenteredBinomial.{centered-binomial-counted}

-- a number that is 0 did not refuse
passed : (b : Bool) (k : ℕ) → refuse b (suc k) ≡ 0 → T (not b)
passed true k e = omega arith
passed false k e = tt

neither : (a b : Bool) → T (not (a || b)) → T (not a) × T (not b)
neither true b t = absurd t
neither false b t = (tt, t)

-- what an accepted request passed: 1 to 5, 6, 7 or 8, 12, and the layered draw is not its own
pub record Passed (d : Distr) (n : ℕ) (tables : Tables) : Type 0 where
  pub made : making_number d ≡ 0
  pub short-enough : n ≤ 65536
  pub length-fits : length_number d n ≡ 0
  pub table_fits : table_number d tables ≡ 0
  pub no_layers : T (not (is_layered d))

pub what_passed : (d : Distr) (n : ℕ) (tables : Tables) → making_number d ≡ 0 → T (not (is_layered d)) → first_of (signed_numbers d tables n) ≡ 0 → Passed d n tables
what_passed d n tables made no_layers numbers =
    let first = first-passed (too_long n) (length_number d n ∷ table_number d tables ∷ []) numbers in
    let second = first-passed (length_number d n) (table_number d tables ∷ []) first.1 in
    record {
      made = made;
      short-enough = nltb→le 65536 n (passed (ltb 65536 n) 5 first.0);
      length-fits = second.0;
      table_fits = (first-passed (table_number d tables) [] second.1).0;
      no_layers = no_layers;
    }

not-zero : (n : ℕ) → T (not (eqb n 0)) → 0 < n
not-zero zero t = absurd t
not-zero (suc n) t = omega arith

not-not : (b : Bool) → T (not (not b)) → T b
not-not true t = tt
not-not false t = t

-- a Gaussian that is accepted has a well_formed cumulative table
pub table-good : (deviation : Float) (tables : Tables)
    → T (not (not (leb (support deviation) cumulative_limit)))
    → gaussian_table (support deviation) tables ≡ 0
    → T (cumulative_table (support deviation) tables.bounds)
table-good deviation tables = go (leb (support deviation) cumulative_limit)
  where
    good : Bool
    good = cumulative_table (support deviation) tables.bounds

    go : (b : Bool) → T (not (not b))
        → cond b (refuse (not good) 12) (layer_number (support deviation) tables.layers) ≡ 0
        → T good
    go true t e = not-not good (passed (not good) 11 e)
    go false t e = absurd t

by-secret : (d : SecretKeyDistr) (n : ℕ) (tables : Tables) → Passed (secret d) n tables
    → Counted (secret_rule d n tables.bounds) (inside_secret d n) (secret_formula d n tables.bounds)
unfolding secret_rule inside_secret secret_formula making_number secret_number length_number table_number on_deviation
by-secret UniformBinary n tables p = uniform_binary-counted n
by-secret (Binary q) n tables p = binary-counted (threshold q) n (threshold-le q (passed (bad_probability q) 0 p.made))
by-secret SparseTernary n tables p = sparse_ternary-counted n
by-secret UniformTernary n tables p = uniform_ternary-counted n
by-secret (Ternary minus plus) n tables p =
    let good = (neither (bad_probability minus || bad_probability plus) (lt (sub binary64 (literal 1 1) plus) minus) (passed (bad_probabilities minus plus) 0 p.made)).0 in
    let each = neither (bad_probability minus) (bad_probability plus) good in
    ternary-counted (threshold minus) (threshold plus) n (threshold-le minus each.0) (threshold-le plus each.1)
by-secret (FixedHammingWeightBinary h) n tables p = binary_weight_counted h n (weight_fits h n p.length-fits) p.short-enough
by-secret (BlockBinary size occupancy) n tables p =
    let fits = neither (eqb n 0) (not (eqb (n % size) 0)) (passed (eqb n 0 || not (eqb (n % size) 0)) 7 p.length-fits) in
    block-binary-counted size n occupancy (passed (bad_block size occupancy) 4 p.made) (not-zero n fits.0) p.short-enough
    (eqb→eq (n % size) 0 (not-not (eqb (n % size) 0) fits.1))
by-secret (FixedHammingWeightTernary h) n tables p = ternary_weight_counted h n (weight_fits h n p.length-fits) p.short-enough
by-secret (FixedCompositionTernary minus ones) n tables p =
    composition_counted minus ones n (weight_fits (minus + ones) n p.length-fits) p.short-enough
by-secret (Gaussian deviation) n tables p =
    cumulative-counted (support deviation) n tables.bounds (table-good deviation tables p.no_layers p.table_fits)

by-error : (d : ErrorDistribution) (n : ℕ) (tables : Tables) → Passed (error d) n tables
    → Counted (error_rule d n tables.bounds) (inside (error d) n) (formula (error d) n tables.bounds)
unfolding error_rule inside formula making_number error_number table_number on_deviation
by-error (ErrorGaussian deviation) n tables p =
    cumulative-counted (support deviation) n tables.bounds (table-good deviation tables p.no_layers p.table_fits)
by-error (CenteredBinomial eta) n tables p =
    centered-binomial-counted eta n (leb→le eta 32 (and_r (leb 1 eta) (leb eta 32) (not-not (leb 1 eta && leb eta 32) (passed (not (leb 1 eta && leb eta 32)) 3 p.made))))

pub requests_counted : (d : Distr) (n : ℕ) (tables : Tables) → Passed d n tables
    → Counted (rule d n tables.bounds) (inside d n) (formula d n tables.bounds)
unfolding rule inside formula
requests_counted (secret d) n tables p = by-secret d n tables p
requests_counted (error d) n tables p = by-error d n tables p
