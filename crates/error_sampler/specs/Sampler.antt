-- Making an error sampler, which samplers making gives, and its standard deviation.
use Rattle.std.specs.Prelude.{Bool, cond, ◌&&◌, eqb, Float}
use Rattle.distr.specs.declared.error_distribution.ErrorDistribution.{ErrorDistribution}
use Rattle.distr.specs.declared.error_distribution.ErrorDistribution.TheVariants as Distr
use Rattle.distr.specs.Making.{error_number}
use Rattle.centered_binomial.specs.Deviation.{binomial_deviation}
use Rattle.methods.specs.declared.SamplingMethod.TheVariants.{Empty}
use Rattle.methods.specs.Keys.{method_key, same_key}
use Rattle.error_method.specs.Method.{prepared}
use Rattle.error_sampler.specs.declared.ErrorSampler.{ErrorSampler}
use Rattle.error_sampler.specs.declared.MadeErrorSampler.{MadeErrorSampler}

-- "Making a sampler that is refused hands back an empty sampler."
abbrev pub empty_sampler : ErrorSampler
empty_sampler = record { distribution = Distr.CenteredBinomial 0; method = Empty }

-- Numbers 2 to 4, or 0 and the sampler.
abbrev pub making : ErrorDistribution → MadeErrorSampler
making d =
    cond (eqb (error_number d) 0) (record { number = 0; sampler = record { distribution = d; method = prepared d } })
    (record { number = error_number d; sampler = empty_sampler })

-- "21 a sampler that making never gives, the empty one included": making the sampler's own distribution gives exactly it.
abbrev pub is_made : ErrorSampler → Bool
is_made s =
    eqb (error_number s.distribution) 0 && same_key (method_key s.method) (method_key (prepared s.distribution))

-- The standard deviation of a distribution: the Gaussian's own, the centered binomial's from eta.
abbrev pub deviation_of : ErrorDistribution → Float
deviation_of (Distr.Gaussian deviation) = deviation
deviation_of (Distr.CenteredBinomial eta) = binomial_deviation eta
