use Rattle.ziggurat.proofs.Passing.{low_there, both_there, one_there}
use Rattle.ziggurat.proofs.sampling.passes_edge.Goals as goal

pub bounds-words-place : goal.bounds-words-place
bounds-words-place c = search low_there

pub bounds-words-place-then-trial-eq0 : goal.bounds-words-place-then-trial-eq0
bounds-words-place-then-trial-eq0 c = search both_there

pub bounds-words-place-2 : goal.bounds-words-place-2
bounds-words-place-2 c = search one_there
