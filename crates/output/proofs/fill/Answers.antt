use Rattle.std.proofs.Common.{arith}
use Rattle.distr.proofs.Writing.{fill_more, fill_all}
use Rattle.output.proofs.fill.Goals as goal

pub loop-element-preserved : goal.loop-element-preserved
loop-element-preserved g c = rw c.loop-element.invariant (fill_more c.args.value c.args.output.now c.loop-element.element-index c.loop-element-test.true)

pub returns : goal.returns
returns g c =
    let loop = c.loop-element in
    fill_all c.args.value c.args.output.now loop.output loop.element-index (omega (arith, c.loop-element-test.false, loop.auto.element-index-end)) loop.invariant
