use lib.Ieee.{round, of_bits}
use Rattle.edge.specs.Edge.{accepts_on}
use Rattle.edge.proofs.accepts.Goals as goal

pub returns-then-layer-deviation : goal.returns-then-layer-deviation
unfolding accepts_on round of_bits
returns-then-layer-deviation c = rw (c.if-layer-deviation.true, c.line.ensures)

pub returns-then-deviation-layer : goal.returns-then-deviation-layer
unfolding accepts_on round of_bits
returns-then-deviation-layer c = rw (c.if-layer-deviation.false, c.if-deviation-layer.true, c.line-then-deviation-layer.ensures)

pub returns-else-deviation-layer : goal.returns-else-deviation-layer
unfolding accepts_on round of_bits
returns-else-deviation-layer c = rw (c.if-layer-deviation.false, c.if-deviation-layer.false)
