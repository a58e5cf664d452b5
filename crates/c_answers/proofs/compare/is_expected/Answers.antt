-- One element more, by the definition of `all_below`.
use Rattle.std.proofs.Common.{◌&&◌, nat_eq, slice_index, refl, ap, add-one}
use Rattle.c_answers.specs.Answer.{expected as expected_at, all_below}
use Rattle.c_answers.proofs.compare.is_expected.Goals as goal

pub loop-i-init : goal.loop-i-init
unfolding all_below
loop-i-init c = refl

pub loop-i-preserved : goal.loop-i-preserved
unfolding all_below
loop-i-preserved c =
    let tested = nat_eq (slice_index c.args.output.now c.loop-i.i) (expected_at c.args.coefficients.now c.args.number c.loop-i.i) in
    rw (add-one c.loop-i.i, c.expected.ensures) (ap (λ b. b && tested) c.loop-i.invariant)
