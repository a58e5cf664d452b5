use Rattle.std.proofs.Common.{ap}
use lib.Ieee.{round, of_bits}
use Rattle.ziggurat.specs.Sampling.{made_or_none}
use Rattle.ziggurat.proofs.sampling.zero_threshold.Goals as goal

pub returns-in-Ok : goal.returns-in-Ok
unfolding round of_bits
returns-in-Ok c = ap made_or_none c.in-Ok.ensures

pub returns-in-Err : goal.returns-in-Err
unfolding round of_bits
returns-in-Err c = ap made_or_none c.in-Err.ensures
