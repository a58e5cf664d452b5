-- The first elements are stored, and two words passed for each.
use Rattle.std.proofs.Common.{◌≡◌, ◌+◌, ◌*◌}
use Rattle.distr.specs.Thresholds.{binary_value}
use Rattle.numbers.proofs.WideStores.{Stored}
use Rattle.binary.specs.Below.{end_of}
use Rattle.binary.proofs.store.fill_by.Given as goal

abbrev pub invariant-loop-element : goal.invariant-loop-element
invariant-loop-element g l =
    (l.at ≡ l.place + 2 * l.element-index)
    × Stored (λ w. g.T.Output.held_one l.fn.encoding (binary_value (end_of l.below l.odd) w)) l.words l.place l.fn.output l.element-index l.output
