use lib.Ieee.{round, of_bits}
use Rattle.edge.specs.Edge.{line_of}
use Rattle.edge.proofs.line.Goals as goal

pub returns-then-layer : goal.returns-then-layer
unfolding line_of round of_bits
returns-then-layer c = rw c.if-layer.true

pub returns-else-layer : goal.returns-else-layer
unfolding line_of
returns-else-layer c = rw (c.if-layer.false, c.slope.ensures)
