-- The choice from the words left now is the choice from those left at first, which passes over so many words more.
use Rattle.words.proofs.Choosing.{Same}
use Rattle.words.proofs.uniform_below.Given as goal

abbrev pub invariant-loop-i : goal.invariant-loop-i
invariant-loop-i l = Same l.words l.place l.k l.i
