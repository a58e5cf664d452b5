use Rattle.std.proofs.Common.{◌∙◌}
use Rattle.draw_laws.proofs.Making.{modulus_validated}
use Rattle.error_sampler.proofs.Made.{makes}
use Rattle.error_sampler.proofs.SamplerFloats.{sampler_fits}
use Rattle.error_sampler.proofs.ErrorSampler.validate_modulus.Goals as goal

pub returns : goal.returns
returns c =
    let self = c.args.self in
    c.check_modulus_by.ensures
    ∙ rw c.maximum_magnitude.ensures (modulus_validated makes self c.is_made-made.ensures _ (sampler_fits self _ c.well_formed.0))
