-- The three samplers that the library's face declares, each a view of another sampler: how they are made, and the sampler that draws for them.
use Rattle.std.specs.Prelude.{ℕ, cond, eqb, Float}
use Rattle.distr.specs.declared.secret_key_distr.SecretKeyDistr.TheVariants.{Ternary}
use Rattle.distr.specs.declared.error_distribution.ErrorDistribution.TheVariants.{Gaussian, CenteredBinomial as BinomialOf}
use Rattle.distr.specs.Thresholds.{threshold}
use Rattle.distr.specs.Constants.{literal, invalid_probabilities}
use Rattle.distr.specs.Gaussian.{support}
use Rattle.distr.specs.Making.{bad_probabilities, gaussian_number}
use Rattle.ternary.specs.declared.ternary.TernaryEnds.TheVariants.{General}
use Rattle.ternary.specs.Sampler.{sampler_of}
use Rattle.methods.specs.declared.SamplingMethod.TheVariants.{Ternary as TernaryMethod, Gaussian as GaussianMethod, CenteredBinomial as BinomialMethod}
use Rattle.secret_key_sampler.specs.declared.SecretKeySampler.{SecretKeySampler}
use Rattle.centered_binomial.specs.Binomial.{eta_number, parameters_of}
use Rattle.error_sampler.specs.declared.ErrorSampler.{ErrorSampler}
use Rattle.primus_distr.specs.declared.ternary_sampler.TernarySampler.{TernarySampler}
use Rattle.primus_distr.specs.declared.ternary_sampler.MadeTernarySampler.{MadeTernarySampler}
use Rattle.primus_distr.specs.declared.gaussian.SignedDiscreteGaussian.{SignedDiscreteGaussian}
use Rattle.primus_distr.specs.declared.gaussian.MadeSignedDiscreteGaussian.{MadeSignedDiscreteGaussian}
use Rattle.primus_distr.specs.declared.binomial.CenteredBinomial.{CenteredBinomial}
use Rattle.primus_distr.specs.declared.binomial.MadeCenteredBinomial.{MadeCenteredBinomial}

-- "Making a sampler that is refused hands back an empty sampler": one whose ends making never gives for its probabilities.
abbrev pub empty_ternary : TernarySampler
empty_ternary = record { negative_one_probability = literal 0 1; one_probability = literal 0 1; ends = General 0 0 }

-- "1 a probability not finite, outside 0..1, or negative > 1.0 − positive in f64", or 0 and the sampler.
abbrev pub making_ternary : Float → Float → MadeTernarySampler
making_ternary minus plus =
    cond (bad_probabilities minus plus) (record { number = invalid_probabilities; sampler = empty_ternary })
    (record {
      number = 0;
      sampler = record { negative_one_probability = minus; one_probability = plus; ends = sampler_of (threshold minus) (threshold plus) };
    })

-- The secret-key sampler that draws for it.
abbrev pub as_key : TernarySampler → SecretKeySampler
as_key s = record { distr = Ternary s.negative_one_probability s.one_probability; method = TernaryMethod s.ends }

-- "2 deviation not finite, …"; "3 support above 4,095"; or 0 and the sampler. The empty one has the deviation 0, which making refuses.
abbrev pub empty_gaussian : SignedDiscreteGaussian
empty_gaussian = record { parameters = record { standard_deviation = literal 0 1; maximum_magnitude = 0 } }

abbrev pub making_gaussian : Float → MadeSignedDiscreteGaussian
making_gaussian deviation =
    cond (eqb (gaussian_number deviation) 0)
    (record { number = 0; sampler = record { parameters = record { standard_deviation = deviation; maximum_magnitude = support deviation } } })
    (record { number = gaussian_number deviation; sampler = empty_gaussian })

-- The error sampler that draws for it.
abbrev pub as_error : SignedDiscreteGaussian → ErrorSampler
as_error s = record { distribution = Gaussian s.parameters.standard_deviation; method = GaussianMethod s.parameters }

-- "4 eta outside 1..32", or 0 and the sampler. The empty one has eta 0, which making refuses.
abbrev pub empty_binomial : CenteredBinomial
empty_binomial = record { parameters = record { eta = 0; mask = 0 } }

abbrev pub making_binomial : ℕ → MadeCenteredBinomial
making_binomial eta =
    record { number = eta_number eta; sampler = cond (eqb (eta_number eta) 0) (record { parameters = parameters_of eta }) empty_binomial }

-- The error sampler that draws for it.
abbrev pub as_binomial_error : CenteredBinomial → ErrorSampler
as_binomial_error s = record { distribution = BinomialOf s.parameters.eta; method = BinomialMethod s.parameters }
