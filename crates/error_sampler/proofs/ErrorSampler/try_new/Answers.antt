use Rattle.distr.proofs.Refusals.{refuses-eqb}
use Rattle.error_sampler.proofs.ErrorSampler.try_new.Goals as goal

pub returns-in-Ok : goal.returns-in-Ok
returns-in-Ok c = rw (← c.in-Ok.ensures.0, c.in-Ok.ensures.1)

pub returns-in-Err : goal.returns-in-Err
returns-in-Err c = rw (c.number.ensures, ← c.in-Err.ensures.0, refuses-eqb c.in-Err.why)
