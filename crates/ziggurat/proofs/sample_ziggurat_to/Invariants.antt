-- Turn by turn the tries store the draw's coefficients; each takes one of the words left.
use Rattle.std.proofs.Common.{◌-◌, length}
use Rattle.ziggurat.proofs.Turning.{Turning}
use Rattle.ziggurat.proofs.sample_ziggurat_to.Given as goal

abbrev pub invariant-loop-i : goal.invariant-loop-i
invariant-loop-i g l =
    Turning (g.T.Output.held l.encoding) l.fn.parameters l.endpoints l.heights l.curve l.words l.place l.fn.output (g.T.Output.held_one l.encoding)
    l.zero l.from l.i l.at l.used l.output

abbrev pub decreases-loop-i : goal.decreases-loop-i
decreases-loop-i g l = length l.from - l.at
