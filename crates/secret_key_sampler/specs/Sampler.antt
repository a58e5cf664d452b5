-- Making a secret-key sampler, and which samplers making gives.
use Rattle.std.specs.Prelude.{Bool, cond, ◌&&◌, eqb}
use Rattle.distr.specs.declared.secret_key_distr.SecretKeyDistr.{SecretKeyDistr}
use Rattle.distr.specs.declared.secret_key_distr.SecretKeyDistr.TheVariants as Distr
use Rattle.distr.specs.Making.{secret_number}
use Rattle.methods.specs.declared.SamplingMethod.TheVariants.{Empty}
use Rattle.methods.specs.Keys.{method_key, same_key}
use Rattle.secret_key_method.specs.Method.{prepared}
use Rattle.secret_key_sampler.specs.declared.SecretKeySampler.{SecretKeySampler}
use Rattle.secret_key_sampler.specs.declared.MadeSecretKeySampler.{MadeSecretKeySampler}

-- "Making a sampler that is refused hands back an empty sampler."
abbrev pub empty_sampler : SecretKeySampler
empty_sampler = record { distr = Distr.UniformBinary; method = Empty }

-- Numbers 1 to 5, or 0 and the sampler.
abbrev pub making : SecretKeyDistr → MadeSecretKeySampler
making d =
    cond (eqb (secret_number d) 0) (record { number = 0; sampler = record { distr = d; method = prepared d } })
    (record { number = secret_number d; sampler = empty_sampler })

-- "21 a sampler that making never gives, the empty one included": making the sampler's own distribution gives exactly it.
abbrev pub is_made : SecretKeySampler → Bool
is_made s = eqb (secret_number s.distr) 0 && same_key (method_key s.method) (method_key (prepared s.distr))
