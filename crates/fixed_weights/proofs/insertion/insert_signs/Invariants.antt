-- What is read from the words left now, and from the signs at hand, is what is read from the words left at first.
use Rattle.std.proofs.Common.{length}
use Rattle.fixed_weights.proofs.SignTurns.{SignTurn}
use Rattle.fixed_weights.proofs.insertion.insert_signs.Given as goal

abbrev pub invariant-loop-i : goal.invariant-loop-i
invariant-loop-i g l =
    SignTurn (g.T.Output.held l.fn.encoding) (g.T.Output.held_one l.fn.encoding) l.words (length l.fn.output) l.hamming_weight l.i l.next
    l.signs.word l.signs.left l.output
