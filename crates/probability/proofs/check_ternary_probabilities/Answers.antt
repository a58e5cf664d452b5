use lib.Ieee.{of_bits, round}
use Rattle.probability.proofs.check_ternary_probabilities.Goals as goal

pub returns-then-bad_probability-negative : goal.returns-then-bad_probability-negative
unfolding of_bits round
returns-then-bad_probability-negative c =
    rw (← c.bad_probability.ensures, ← c.bad_probability-2.ensures, c.if-bad_probability-negative.true)

pub returns-else-bad_probability-negative : goal.returns-else-bad_probability-negative
unfolding of_bits round
returns-else-bad_probability-negative c =
    rw (← c.bad_probability.ensures, ← c.bad_probability-2.ensures, c.if-bad_probability-negative.false)
