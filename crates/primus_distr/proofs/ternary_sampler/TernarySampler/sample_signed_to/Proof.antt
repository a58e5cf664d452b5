-- `TernarySampler::sample_signed_to` is the draw of the secret-key sampler that it views.
use borrow.Author.Rules.{rules}
use Rattle.primus_distr.proofs.ternary_sampler.TernarySampler.sample_signed_to.Statement.{
  statement,
}
use Rattle.primus_distr.proofs.ternary_sampler.TernarySampler.sample_signed_to.Tie as tie

pub sample_signed_to_spec : {M : Type 1} → statement M
sample_signed_to_spec =
    tie.close
    (tie.spec (λ c κs. search rules) (λ c κs. search rules)
    (λ c. search rules)
    (λ c. let view = c.before.before.before.before.before.before.before.as_key-sampler in rw view.ensures at c.before.sample_signed_to.ensures))
