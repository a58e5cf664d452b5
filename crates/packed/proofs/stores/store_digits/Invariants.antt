-- After so many turns the lowest digits are stored, two of them a turn.
use Rattle.packed.proofs.Storing.{Pairwise}
use Rattle.packed.proofs.stores.store_digits.Given as goal

abbrev pub invariant-loop-turn : goal.invariant-loop-turn
invariant-loop-turn g l = Pairwise l.base l.«each» (g.T.Output.natural 0) l.pairs l.fn.output l.at l.word l.turn l.output l.x
