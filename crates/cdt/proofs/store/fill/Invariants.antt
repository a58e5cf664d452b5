-- The first i elements are stored.
use Rattle.distr.specs.Gaussian.{cumulative_value}
use Rattle.numbers.proofs.WideStores.{Stored}
use Rattle.cdt.proofs.store.fill.Given as goal

abbrev pub invariant-loop-i : goal.invariant-loop-i
invariant-loop-i g l = Stored (λ w. g.T.Output.held_one l.encoding (cumulative_value l.top l.bounds w)) l.words l.place l.fn.output l.i l.output
