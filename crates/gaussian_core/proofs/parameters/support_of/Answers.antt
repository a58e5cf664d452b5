use Rattle.std.proofs.Common.{◌≡◌, ℕ, ◌<◌, max, false, T, sym, ap, ◌∙◌, subst, arith}
use Rattle.std.proofs.Math.Nat.{max_comm}
use lib.Ieee.{Float, of_bits, round, lt, to_unsigned}
use lib.Ieee.Positive.{num, den, own_value}
use Rattle.distr.specs.Gaussian.{support}
use Rattle.distr.specs.Constants.{support_limit}
use Rattle.distr.specs.Making.{bad_deviation}
use Rattle.probability.proofs.Truncating.{minus_one, power, truncated, above_minus_one}
use Rattle.gaussian_core.proofs.Support.{product, product-positive, not-below-power}
use Rattle.gaussian_core.proofs.Made.{support-large, support-small}
use Rattle.gaussian_core.proofs.parameters.support_of.Goals as goal

pub returns-then-not-product : goal.returns-then-not-product
unfolding of_bits round
returns-then-not-product c =
    let d = c.args.standard_deviation in
    let large = not-below-power 64 (product d) (product-positive d c.requires) c.if-not-product.true in
    support-large d (omega (arith, large))

-- the product of an accepted deviation lies where it can be cut to a u64
above : (d : Float) → bad_deviation d ≡ false → T (lt minus_one (product d))
above d good = above_minus_one (product d) false (num (product d)) (den (product d)) (own_value (product d) (product-positive d good)) absurd

pub truncating_f64_to_u64-requires-clause-lower_bound : goal.truncating_f64_to_u64-requires-clause-lower_bound
unfolding of_bits round
truncating_f64_to_u64-requires-clause-lower_bound c = above c.args.standard_deviation c.requires

pub truncating_f64_to_u64-requires-clause-upper_bound : goal.truncating_f64_to_u64-requires-clause-upper_bound
unfolding of_bits round
truncating_f64_to_u64-requires-clause-upper_bound c = subst T (sym c.if-not-product.false) tt

-- what the code compares is the support
supported : (d : Float) (r m : ℕ) → bad_deviation d ≡ false → T (lt (product d) (power 64)) → r ≡ to_unsigned 64 (product d) → m ≡ max r 1 → m ≡ support d
supported d r m good below cut most = most ∙ max_comm r 1 ∙ ap (max 1) (cut ∙ truncated 64 _ (above d good) below)

pub returns-then-maximum_magnitude-gt-MAX_MAGNITUDE : goal.returns-then-maximum_magnitude-gt-MAX_MAGNITUDE
unfolding of_bits round
returns-then-maximum_magnitude-gt-MAX_MAGNITUDE c =
    let d = c.args.standard_deviation in
    let same = supported d _ _ c.requires (subst T (sym c.if-not-product.false) tt) c.truncating_f64_to_u64.ensures c.max-maximum_magnitude.ensures in
    support-large d (subst (λ z. support_limit < z) same c.if-maximum_magnitude-gt-MAX_MAGNITUDE.true)

pub returns : goal.returns
unfolding of_bits round
returns c =
    let d = c.args.standard_deviation in
    let same = supported d _ _ c.requires (subst T (sym c.if-not-product.false) tt) c.truncating_f64_to_u64.ensures c.max-maximum_magnitude.ensures in
    rw same (support-small d (rw same at c.if-maximum_magnitude-gt-MAX_MAGNITUDE.false))
