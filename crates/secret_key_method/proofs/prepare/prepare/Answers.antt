use Rattle.std.proofs.Common.{rules}
use Rattle.distr.specs.Making.{secret_number}
use Rattle.probability.proofs.Made.{makes_threshold}
use Rattle.gaussian_core.proofs.Made.{makes_parameters}
use Rattle.secret_key_method.specs.Method.{prepared}
use Rattle.secret_key_method.proofs.prepare.prepare.Goals as goal

pub returns-in_err-threshold-in-Binary : goal.returns-in_err-threshold-in-Binary
unfolding secret_number prepared
returns-in_err-threshold-in-Binary c =
    let m = rw (← c.in_err-threshold-in-Binary.ensures) at (makes_threshold c.in-Binary.one_probability) in rw c.in-Binary.is (search rules)

pub returns-in_ok-threshold-in-Binary : goal.returns-in_ok-threshold-in-Binary
unfolding secret_number prepared
returns-in_ok-threshold-in-Binary c =
    let m = rw (← c.in_ok-threshold-in-Binary.ensures) at (makes_threshold c.in-Binary.one_probability) in rw c.in-Binary.is (search rules)

pub returns-in_err-parameters-in-Gaussian : goal.returns-in_err-parameters-in-Gaussian
unfolding secret_number prepared
returns-in_err-parameters-in-Gaussian c =
    let m = rw (← c.in_err-parameters-in-Gaussian.ensures) at (makes_parameters c.in-Gaussian.standard_deviation) in rw c.in-Gaussian.is (search rules)

pub returns-in_ok-parameters-in-Gaussian : goal.returns-in_ok-parameters-in-Gaussian
unfolding secret_number prepared
returns-in_ok-parameters-in-Gaussian c =
    let m = rw (← c.in_ok-parameters-in-Gaussian.ensures) at (makes_parameters c.in-Gaussian.standard_deviation) in rw c.in-Gaussian.is (search rules)
