-- The table against its rule: antt computes the root of each entry, and compares. Each is the nearest by a law of the rule.
use lib.Ieee.{of_bits, round}
use Rattle.centered_binomial.specs.Deviation.{root}
use Rattle.centered_binomial.proofs.Deviations.{nearest, table-value, no_deviation}
use Rattle.centered_binomial.proofs.deviation.standard_deviation.Goals as goal

pub returns-then-eta-le-MAX_ETA : goal.returns-then-eta-le-MAX_ETA
unfolding of_bits round root
returns-then-eta-le-MAX_ETA c =
    let value = table-value c.args.eta c.if-eta-le-MAX_ETA.true in (value, λ e. rw value (nearest c.args.eta e))

pub returns-else-eta-le-MAX_ETA : goal.returns-else-eta-le-MAX_ETA
unfolding of_bits round
returns-else-eta-le-MAX_ETA c =
    let value = no_deviation c.args.eta c.if-eta-le-MAX_ETA.false in (value, λ e. rw value (nearest c.args.eta e))
