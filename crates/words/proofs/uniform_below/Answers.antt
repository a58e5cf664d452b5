use Rattle.std.proofs.Common.{rules, arith}
use Rattle.words.proofs.Choosing.{same_next}
use Rattle.words.proofs.uniform_below.Goals as goal

pub loop-i-preserved : goal.loop-i-preserved
loop-i-preserved c = same_next _ _ _ _ c.loop-i.invariant c.remainder-r.result (omega arith) (omega arith) (omega arith) (search rules) (omega arith)
