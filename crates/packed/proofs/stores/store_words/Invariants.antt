-- What the rule gives from the words left stays the same from turn to turn.
use Rattle.packed.proofs.TritLoop.{TritLoop}
use Rattle.packed.proofs.stores.store_words.Given as goal

abbrev pub invariant-loop-next : goal.invariant-loop-next
invariant-loop-next g l = TritLoop (g.T.Output.natural 0) l.tables.pairs.now l.words l.fn.output 0 l.place l.output l.at l.next 0 0
