-- `CenteredBinomial::sample_encoded_to` is the draw of the error sampler that it views.
use borrow.Author.Rules.{rules}
use Rattle.primus_distr.proofs.binomial.CenteredBinomial.sample_encoded_to.Statement.{
  statement,
}
use Rattle.primus_distr.proofs.binomial.CenteredBinomial.sample_encoded_to.Tie as tie

pub sample_encoded_to_spec : {M : Type 1} → statement M
sample_encoded_to_spec =
    tie.close
    (tie.spec (λ c κs. search rules) (λ c κs. search rules)
    (λ c. search rules)
    (λ c. let view = c.before.before.before.before.before.before.before.before.as_error-sampler in rw view.ensures at c.before.before.sample_encoded_to.ensures))
