use Rattle.std.proofs.Common.{◌∙◌, length-set}
use Rattle.stats.proofs.Within.{listed_more}
use Rattle.stats.proofs.counting.count_limits.Goals as goal

pub loop-i-preserved : goal.loop-i-preserved
loop-i-preserved c =
    let i = c.loop-i.invariant in
    (length-set _ _ _ ∙ i.0, i.1, listed_more _ _ _ _ c.loop-i-test.true i.2 c.count_within.ensures)
