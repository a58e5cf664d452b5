-- The first i elements are stored.
use Rattle.distr.specs.CenteredBinomial.{binomial_value}
use Rattle.numbers.proofs.WideStores.{Stored}
use Rattle.centered_binomial.proofs.store.fill.Given as goal

abbrev pub invariant-loop-i : goal.invariant-loop-i
invariant-loop-i g l = Stored (λ w. g.T.Output.held_one l.encoding (binomial_value l.parameters.eta w)) l.words l.place l.fn.output l.i l.output
