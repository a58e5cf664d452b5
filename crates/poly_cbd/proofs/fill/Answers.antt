use Rattle.std.proofs.Common.{◌∙◌, length-set, arith}
use Rattle.distr.specs.SamplePolyCbd.{polynomial_of}
use Rattle.distr.proofs.Tabulating.{tabulated_more, tabulated-all}
use Rattle.poly_cbd.proofs.fill.Goals as goal

pub loop-i-preserved : goal.loop-i-preserved
loop-i-preserved c =
    let i = c.loop-i.invariant in
    (length-set _ _ _ ∙ i.0, tabulated_more _ 256 _ _ _ _ c.requires.1 c.loop-i-test.true i.1 c.coefficient.ensures)

pub returns : goal.returns
unfolding polynomial_of
returns c = tabulated-all _ 256 c.loop-i.i _ _ c.requires.1 (omega arith) c.loop-i.invariant.1
