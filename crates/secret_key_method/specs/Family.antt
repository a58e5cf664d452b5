-- The families of the secret-key distributions.
use Rattle.std.specs.Prelude.{Bool, true, false}
use Rattle.distr.specs.declared.secret_key_distr.SecretKeyDistr.{SecretKeyDistr}
use Rattle.distr.specs.declared.secret_key_distr.SecretKeyDistr.TheVariants as Distr
use Rattle.secret_key_method.specs.declared.family.Family.{Family}
use Rattle.secret_key_method.specs.declared.family.Family.TheVariants.{Binary, Ternary, Gaussian}

-- The family of a distribution: binary where only 0 and 1 come, ternary where also −1.
abbrev pub family_of : SecretKeyDistr → Family
family_of Distr.UniformBinary = Binary
family_of (Distr.Binary p) = Binary
family_of Distr.SparseTernary = Ternary
family_of Distr.UniformTernary = Ternary
family_of (Distr.Ternary minus plus) = Ternary
family_of (Distr.FixedHammingWeightBinary h) = Binary
family_of (Distr.BlockBinary size occupancy) = Binary
family_of (Distr.FixedHammingWeightTernary h) = Ternary
family_of (Distr.FixedCompositionTernary minus ones) = Ternary
family_of (Distr.Gaussian deviation) = Gaussian

abbrev pub in_binary : Family → Bool
in_binary Binary = true
in_binary Ternary = false
in_binary Gaussian = false

abbrev pub in_ternary : Family → Bool
in_ternary Binary = false
in_ternary Ternary = true
in_ternary Gaussian = false

abbrev pub is_binary : SecretKeyDistr → Bool
is_binary d = in_binary (family_of d)

abbrev pub is_ternary : SecretKeyDistr → Bool
is_ternary d = in_ternary (family_of d)
