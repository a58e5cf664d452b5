use lib.Ieee.{of_bits, round}
use Rattle.gaussian_core.proofs.parameters.bad_deviation.Goals as goal

pub returns : goal.returns
unfolding of_bits round
returns c = rw (c.is_finite.ensures, c.is_finite-2.ensures, c.is_finite-3.ensures)
