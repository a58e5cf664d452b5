use lib.Ieee.{of_bits, round}
use Rattle.distr.proofs.Refusals.{refuses-eqb}
use Rattle.gaussian_core.proofs.Made.{makes_parameters}
use Rattle.primus_distr.proofs.gaussian.SignedDiscreteGaussian.new.Goals as goal

pub returns-in-Ok : goal.returns-in-Ok
returns-in-Ok c = let made = rw (← c.in-Ok.ensures) at (makes_parameters c.args.standard_deviation) in rw (← made.0, made.1)

pub returns-in-Err : goal.returns-in-Err
unfolding of_bits round
returns-in-Err c =
    let made = rw (← c.in-Err.ensures) at (makes_parameters c.args.standard_deviation) in
    rw (c.number.ensures, ← made.0, refuses-eqb c.in-Err.why)
