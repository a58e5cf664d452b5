-- After each turn the values of a word's digits more are written.
use Rattle.packed.proofs.Packing.{Filled}
use Rattle.packed.proofs.stores.fill_digits.Given as goal

abbrev pub invariant-loop-next : goal.invariant-loop-next
invariant-loop-next g l = Filled l.base l.«each» (g.T.Output.natural 0) l.pairs l.words l.place l.fn.output l.at l.next l.output
