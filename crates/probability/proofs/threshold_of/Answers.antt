use Rattle.std.proofs.Common.{◌≡◌, ◌∙◌, ◌^◌, Bool, true, false, T, sym, subst, arith, ne_eqb}
use lib.Ieee.{Float, binary64, of_bits, lt, fits}
use Rattle.distr.specs.Making.{bad_probability}
use Rattle.distr.specs.Thresholds.{threshold}
use Rattle.probability.specs.Made.{made_threshold}
use Rattle.probability.proofs.Truncating.{truncated}
use Rattle.probability.proofs.Thresholds.{Below, below_one, at_one, one, scaled, above_zero, below_or_one}
use Rattle.probability.proofs.threshold_of.Goals as goal

pub returns-then-bad_probability : goal.returns-then-bad_probability
unfolding made_threshold
returns-then-bad_probability c = rw (← c.bad_probability.ensures, c.if-bad_probability.true)

-- what is known of the product where p is a probability below 1
product : {p : Float} {told : Bool} → fits binary64 p ≡ true → told ≡ bad_probability p → told ≡ false → lt p one ≡ true → Below p
product {p} f same good below = below_one p (subst T (sym f) tt) (above_zero p (sym same ∙ good)) (subst T (sym below) tt)

pub truncating_f64_to_u64-below-requires-clause-lower_bound : goal.truncating_f64_to_u64-below-requires-clause-lower_bound
unfolding of_bits
truncating_f64_to_u64-below-requires-clause-lower_bound c =
    (product c.well_formed.0.1 c.bad_probability.ensures c.if-bad_probability.false c.if-p.true).above

pub truncating_f64_to_u64-below-requires-clause-upper_bound : goal.truncating_f64_to_u64-below-requires-clause-upper_bound
unfolding of_bits
truncating_f64_to_u64-below-requires-clause-upper_bound c =
    (product c.well_formed.0.1 c.bad_probability.ensures c.if-bad_probability.false c.if-p.true).below

pub returns-then-p : goal.returns-then-p
unfolding made_threshold of_bits
returns-then-p c =
    let p = c.args.p in
    let known = product c.well_formed.0.1 c.bad_probability.ensures c.if-bad_probability.false c.if-p.true in
    let cut : c.truncating_f64_to_u64-below.result ≡ threshold p =
    c.truncating_f64_to_u64-below.ensures ∙ truncated 64 (scaled p) known.above known.below ∙ known.cut in
    rw (
      ← c.bad_probability.ensures,
      c.if-bad_probability.false,
      cut,
      ne_eqb (threshold p) (2 ^ 64) (λ e. omega (arith, known.small)),
    )

pub returns : goal.returns
unfolding made_threshold of_bits
returns c =
    let p = c.args.p in
    let good = sym c.bad_probability.ensures ∙ c.if-bad_probability.false in
    rw (good, at_one p (below_or_one p good) c.if-p.false)
