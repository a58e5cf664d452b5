use Rattle.distr.proofs.Refusals.{refuses-eqb}
use Rattle.secret_key_sampler.proofs.is_made.Goals as goal

pub returns-in-Ok : goal.returns-in-Ok
returns-in-Ok c = rw (c.same_method.ensures, c.in-Ok.ensures.1, ← c.in-Ok.ensures.0)

pub returns-in-Err : goal.returns-in-Err
returns-in-Err c = rw (← c.in-Err.ensures.0, refuses-eqb c.in-Err.field-0)
