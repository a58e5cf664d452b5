use lib.Ieee.{of_bits, round}
use Rattle.probability.proofs.bad_probability.Goals as goal

pub returns : goal.returns
unfolding of_bits round
returns c = rw c.is_finite.ensures
