-- What is read from the words left now, behind the blocks that are filled, is what is read from those left at first. Each turn takes a word.
use Rattle.std.proofs.Common.{◌-◌, length}
use Rattle.block_binary.proofs.Filling.{Turn}
use Rattle.block_binary.proofs.blocks.draw_blocks.Given as goal

abbrev pub invariant-loop-start : goal.invariant-loop-start
invariant-loop-start g l = Turn (g.T.Output.held l.fn.encoding) g.T.Output.natural l.lent l.block_size l.choices l.n l.start l.at l.output

abbrev pub decreases-loop-start : goal.decreases-loop-start
decreases-loop-start g l = length l.lent - l.at
