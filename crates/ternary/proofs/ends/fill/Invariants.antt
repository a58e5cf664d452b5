-- The first i elements are stored, and 2 i words passed. The others are stored in their own part.
use Rattle.std.proofs.Common.{◌≡◌, ◌+◌, ◌*◌, ◌-◌, ◌%◌}
use Rattle.numbers.proofs.WideStores.{Stored}
use Rattle.ternary.specs.Sampler.{plan_value}
use Rattle.ternary.proofs.ends.fill.Given as goal

abbrev pub invariant-loop-i : goal.invariant-loop-i
invariant-loop-i g l = record {
  passed : l.at ≡ l.place + 2 * l.i;
  by_four : l.i % 4 ≡ 0;
  stored : Stored (λ w. g.T.Output.held_one l.encoding (plan_value l.plan w)) l.words l.place l.fn.output l.i l.output;
}

abbrev pub decreases-loop-i : goal.decreases-loop-i
decreases-loop-i g l = l.end - l.i
