use Rattle.std.proofs.Common.{rules}
use Rattle.distr.specs.Making.{error_number}
use Rattle.gaussian_core.proofs.Made.{makes_parameters}
use Rattle.error_method.specs.Method.{prepared}
use Rattle.error_method.proofs.prepare.Goals as goal

pub returns-in_err-parameters-in-Gaussian : goal.returns-in_err-parameters-in-Gaussian
unfolding error_number prepared
returns-in_err-parameters-in-Gaussian c =
    let m = rw (← c.in_err-parameters-in-Gaussian.ensures) at (makes_parameters c.in-Gaussian.standard_deviation) in rw c.in-Gaussian.is (search rules)

pub returns-in_ok-parameters-in-Gaussian : goal.returns-in_ok-parameters-in-Gaussian
unfolding error_number prepared
returns-in_ok-parameters-in-Gaussian c =
    let m = rw (← c.in_ok-parameters-in-Gaussian.ensures) at (makes_parameters c.in-Gaussian.standard_deviation) in rw c.in-Gaussian.is (search rules)
