-- What is read from the words left now is what is read from those left at first.
use Rattle.fixed_weights.proofs.Turns.{Copying}
use Rattle.fixed_weights.proofs.insertion.insert_copies.Given as goal

abbrev pub invariant-loop-i : goal.invariant-loop-i
invariant-loop-i g l = Copying l.words l.start l.end l.value l.place l.fn.output l.i l.next l.output
