-- A turn takes an element from what is left; at the end nothing is left.
use Rattle.std.proofs.Common.{sym, refl, ap, ◌∙◌, add-one, drop_of_length-le, drop-cons}
use Rattle.rust_answers.specs.Answer.{digest as digest_of}
use Rattle.rust_answers.proofs.compare.digest.Goals as goal

pub loop-element-init : goal.loop-element-init
loop-element-init c = refl

pub loop-element-preserved : goal.loop-element-preserved
unfolding digest_of
loop-element-preserved c =
    rw (add-one c.loop-element.element-index, c.digest_with-digest.ensures)
    (ap (digest_of c.args.offset c.loop-element.digest) (sym (drop-cons c.args.output.now c.loop-element.element-index 0 c.loop-element-test.true))
    ∙ c.loop-element.invariant)

pub returns : goal.returns
unfolding digest_of
returns c = rw (drop_of_length-le c.args.output.now c.loop-element-test.false) at c.loop-element.invariant
