-- `ErrorSampler::standard_deviation` gives the deviation of a Gaussian, and of a centered binomial that of its eta.
use borrow.Author.Rules.{rules}
use Rattle.error_sampler.proofs.ErrorSampler.standard_deviation.Statement.{statement}
use Rattle.error_sampler.proofs.ErrorSampler.standard_deviation.Tie as tie

returns-2 : tie.Need-returns-in-CenteredBinomial
returns-2 c = rw c.in-CenteredBinomial.is c.standard_deviation.ensures.0

pub standard_deviation_spec : {M : Type 1} → statement M
standard_deviation_spec =
    tie.close (tie.spec (λ c. search rules) (λ c. search rules) (λ c κs. search rules) (λ c. search rules) returns-2)
