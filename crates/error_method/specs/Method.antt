-- The method that is prepared for an error distribution.
use Rattle.distr.specs.declared.error_distribution.ErrorDistribution.{ErrorDistribution}
use Rattle.distr.specs.declared.error_distribution.ErrorDistribution.TheVariants as Distr
use Rattle.distr.specs.Gaussian.{support}
use Rattle.centered_binomial.specs.Binomial.{parameters_of}
use Rattle.methods.specs.declared.SamplingMethod.{SamplingMethod}
use Rattle.methods.specs.declared.SamplingMethod.TheVariants.{Gaussian, CenteredBinomial}

unfoldable pub prepared : ErrorDistribution → SamplingMethod
prepared (Distr.Gaussian deviation) = Gaussian (record { standard_deviation = deviation; maximum_magnitude = support deviation })
prepared (Distr.CenteredBinomial eta) = CenteredBinomial (parameters_of eta)
