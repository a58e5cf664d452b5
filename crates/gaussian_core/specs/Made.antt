-- The record of a Gaussian as a function hands it back, or why it is refused.
use Rattle.std.specs.Prelude.{ℕ, cond, ltb, Float, Result, Ok, Err}
use Rattle.distr.specs.declared.gaussian_parameters.GaussianParameters.{GaussianParameters}
use Rattle.distr.specs.declared.refusal.Refusal.{Refusal}
use Rattle.distr.specs.declared.refusal.Refusal.TheVariants as Why
use Rattle.distr.specs.Constants.{support_limit}
use Rattle.distr.specs.Gaussian.{support}
use Rattle.distr.specs.Making.{bad_deviation}

-- "The record keeps the deviation and M side by side."
abbrev pub parameters_of : Float → GaussianParameters
parameters_of deviation = record { standard_deviation = deviation; maximum_magnitude = support deviation }

-- The support of an accepted deviation, up to the limit.
unfoldable pub made_support : Float → Result ℕ Refusal
made_support deviation = cond (ltb support_limit (support deviation)) (Err Why.MaximumMagnitudeTooLarge) (Ok (support deviation))

-- A deviation beside its support, where that is not refused.
abbrev pub beside : Float → Result ℕ Refusal → Result GaussianParameters Refusal
beside deviation (Ok magnitude) = Ok (record { standard_deviation = deviation; maximum_magnitude = magnitude })
beside deviation (Err why) = Err why

-- "Making a Gaussian: 2 before 3."
unfoldable pub made_parameters : Float → Result GaussianParameters Refusal
made_parameters deviation = cond (bad_deviation deviation) (Err Why.InvalidStandardDeviation) (beside deviation (made_support deviation))
