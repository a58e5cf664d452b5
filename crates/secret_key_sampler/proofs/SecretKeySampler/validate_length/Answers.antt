use Rattle.std.proofs.Common.{not, ap, ◌∙◌}
use Rattle.draw_laws.proofs.Making.{is-good, unmade_first, made-next}
use Rattle.methods.specs.declared.SamplingMethod.{SamplingMethod}
use Rattle.methods.specs.Method.{length_of}
use Rattle.secret_key_method.proofs.Prepared.{prepared-length}
use Rattle.secret_key_sampler.proofs.Made.{makes, made-method}
use Rattle.secret_key_sampler.proofs.SamplerFloats.{sampler_fits}
use Rattle.secret_key_sampler.proofs.SecretKeySampler.validate_length.Goals as goal

pub returns-then-not-is_made : goal.returns-then-not-is_made
returns-then-not-is_made c = unmade_first makes c.args.self c.is_made.ensures _ (ap not c.if-not-is_made.true)

-- the method of a made sampler judges the length as the distribution does
pub returns : goal.returns
returns c =
    let self = c.args.self in
    let made = is-good makes self c.is_made.ensures (ap not c.if-not-is_made.false) in
    c.check_length.ensures
    ∙ ap (λ (m : SamplingMethod). length_of m c.args.length) (made-method self (sampler_fits self _ c.well_formed.0) made)
    ∙ prepared-length self.distr c.args.length
    ∙ made-next makes self c.is_made.ensures _ (ap not c.if-not-is_made.false)
