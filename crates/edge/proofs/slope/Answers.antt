use lib.Ieee.{round, of_bits}
use Rattle.edge.specs.Edge.{slope_of}
use Rattle.edge.proofs.slope.Goals as goal

pub returns-then-width : goal.returns-then-width
unfolding slope_of round of_bits
returns-then-width c = rw c.if-width.true

pub returns-else-width : goal.returns-else-width
unfolding slope_of round of_bits
returns-else-width c = rw c.if-width.false
