-- `ErrorSampler::sample_signed_to` draws signed coefficients by the method of the sampler.
use Rattle.signed_discrete_gaussian.specs.Lent.{lent}
use Rattle.prepared_draws.proofs.Calls.{sampler_signed}
use Rattle.error_sampler.proofs.Made.{makes, prepares}
use Rattle.error_sampler.proofs.SamplerFloats.{sampler_fits}
use borrow.Author.Rules.{rules}
use Rattle.error_sampler.proofs.ErrorSampler.sample_signed_to.Statement.{statement}
use Rattle.error_sampler.proofs.ErrorSampler.sample_signed_to.Tie as tie

returns : tie.Need-returns
returns c =
    let drawn = c.before in
    let tried = drawn.before.before in
    let start = tried.before.before.before.before.before.before in
    let a = start.args in
    sampler_signed makes prepares a.self (sampler_fits a.self _ start.well_formed.0) (lent a.bounds.now a.endpoints.now a.heights.now a.curve.now)
    a.words.now a.place _ tried.prepared-by.ensures a.output.now drawn.sample_signed_to.ensures

pub sample_signed_to_spec : {M : Type 1} → statement M
sample_signed_to_spec = tie.close (tie.spec (λ c κs. search rules) (λ c κs. search rules) (λ c. search rules) returns)
