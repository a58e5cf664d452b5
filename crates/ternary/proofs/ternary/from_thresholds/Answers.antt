use Rattle.std.proofs.Common.{arith}
use Rattle.ternary.specs.Sampler.{sampler_of}
use Rattle.ternary.proofs.Sampling.{made-zero, made_one, made_nonzero, made_general}
use Rattle.ternary.proofs.ternary.from_thresholds.Goals as goal

pub returns-then-negative : goal.returns-then-negative
unfolding sampler_of
returns-then-negative c = rw c.if-negative.true

pub returns-then-positive-negative : goal.returns-then-positive-negative
returns-then-positive-negative c = made-zero _ c.args.positive c.if-negative.false c.if-positive-negative.true

pub returns-then-positive : goal.returns-then-positive
returns-then-positive c = made_one _ _ c.if-negative.false (omega (arith, c.well_formed)) c.if-positive.true

pub returns-then-negative-positive : goal.returns-then-negative-positive
returns-then-negative-positive c =
    made_nonzero _ _ c.if-negative.false (omega (arith, c.well_formed)) (omega (arith, c.well_formed)) c.if-positive.false c.if-negative-positive.true

pub returns : goal.returns
returns c =
    made_general _ _ c.if-negative.false (omega (arith, c.well_formed)) c.if-positive.false c.if-positive-negative.false c.if-negative-positive.false
