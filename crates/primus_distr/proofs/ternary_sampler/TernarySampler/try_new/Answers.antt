use lib.Ieee.{of_bits, round}
use Rattle.distr.proofs.Refusals.{refuses}
use Rattle.primus_distr.proofs.Making.{ternary-refused, ternary-made}
use Rattle.primus_distr.proofs.ternary_sampler.TernarySampler.try_new.Goals as goal

pub returns-in-Ok : goal.returns-in-Ok
returns-in-Ok c = ternary-made _ _ c.in-Ok.ensures.0 c.in-Ok.ensures.1

pub returns-in-Err : goal.returns-in-Err
unfolding of_bits round
returns-in-Err c =
    let a = c.args in
    rw c.number.ensures (ternary-refused a.negative_one_probability a.one_probability c.in-Err.ensures.0 (refuses _))
