-- The first i elements are stored.
use Rattle.numbers.proofs.WideStores.{Stored}
use Rattle.ternary.specs.Sampler.{plan_value}
use Rattle.ternary.proofs.ends.fill_rest.Given as goal

abbrev pub invariant-loop-i : goal.invariant-loop-i
invariant-loop-i g l = Stored (λ w. g.T.Output.held_one l.encoding (plan_value l.plan w)) l.words l.place l.fn.output l.i l.output
