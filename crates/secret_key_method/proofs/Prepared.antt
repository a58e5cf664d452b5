-- A method prepared for an accepted secret-key distribution: one with its key is that one, its largest magnitude and the lengths that it takes are
-- the distribution's, and its floats are values of f64.
use Prim.Native.Nat.{ℕ}
use native.Mathlib.Omega.{arith}
use mathlib.Core.Path.{◌≡◌, refl}
use mathlib.Core.Bool.{true}
use mathlib.Core.List.{List}
use lib.Dec.{T}
use lib.Ieee.{binary64, fits}
use mir.Val.{Val}
use denote.Shadow.{shadow}
use Rattle.distr.specs.declared.secret_key_distr.SecretKeyDistr.{SecretKeyDistr}
use Rattle.distr.specs.declared.secret_key_distr.SecretKeyDistr.TheVariants as Distr
use Rattle.distr.specs.declared.secret_key_distr.BlockOccupancy.TheVariants.{AtMostOne, ExactlyOne}
use Rattle.distr.specs.Thresholds.{threshold}
use Rattle.distr.specs.Distribution.{secret, on_deviation}
use Rattle.distr.specs.Making.{secret_number, largest}
use Rattle.distr.specs.Numbers.{length_number}
use Rattle.distr.specs.contracts.secret_key_distr.SecretKeyDistr.{the_field as distr-field, the_type as distr-type}
use Rattle.ternary.specs.Sampler.{sampler_of}
use Rattle.gaussian_core.proofs.Made.{made-positive}
use Rattle.methods.specs.declared.SamplingMethod.{SamplingMethod}
use Rattle.methods.specs.Method.{magnitude_of, length_of}
use Rattle.methods.specs.Keys.{same_key, method_key}
use Rattle.methods.proofs.Deviation.{zero-fits}
use Rattle.methods.proofs.MethodFloats.{ternary-fits}
use Rattle.methods.proofs.SameMethod.{Kept, other, gaussian, kept-ternary, same_kept, kept_same}
use Rattle.secret_key_method.specs.Method.{prepared}

kept : (d : SecretKeyDistr) → secret_number d ≡ 0 → Kept (method_key (prepared d)).kind (method_key (prepared d)).deviation
unfolding prepared secret_number
kept Distr.UniformBinary z = other (λ e. omega (arith, e)) refl
kept (Distr.Binary p) z = other (λ e. omega (arith, e)) refl
kept Distr.SparseTernary z = other (λ e. omega (arith, e)) refl
kept Distr.UniformTernary z = other (λ e. omega (arith, e)) refl
kept (Distr.Ternary minus plus) z = kept-ternary (sampler_of (threshold minus) (threshold plus))
kept (Distr.FixedHammingWeightBinary h) z = other (λ e. omega (arith, e)) refl
kept (Distr.BlockBinary size AtMostOne) z = other (λ e. omega (arith, e)) refl
kept (Distr.BlockBinary size ExactlyOne) z = other (λ e. omega (arith, e)) refl
kept (Distr.FixedHammingWeightTernary h) z = other (λ e. omega (arith, e)) refl
kept (Distr.FixedCompositionTernary minus ones) z = other (λ e. omega (arith, e)) refl
kept (Distr.Gaussian deviation) z = gaussian (made-positive deviation z)

-- A method whose key is that of the prepared one, where the floats are values of f64, is that one.
pub same-prepared : (m : SamplingMethod) (d : SecretKeyDistr) → secret_number d ≡ 0
    → T (fits binary64 (method_key m).deviation) → T (fits binary64 (method_key (prepared d)).deviation)
    → T (same_key (method_key m) (method_key (prepared d))) → m ≡ prepared d
same-prepared m d z = same_kept (prepared d) (kept d z) m

pub prepared-same : (d : SecretKeyDistr) → secret_number d ≡ 0 → same_key (method_key (prepared d)) (method_key (prepared d)) ≡ true
prepared-same d z = kept_same (prepared d) (kept d z)

-- The magnitude that a prepared method keeps is its distribution's largest.
pub prepared-magnitude : (d : SecretKeyDistr) → magnitude_of (prepared d) ≡ largest (secret d)
unfolding prepared largest on_deviation
prepared-magnitude Distr.UniformBinary = refl
prepared-magnitude (Distr.Binary p) = refl
prepared-magnitude Distr.SparseTernary = refl
prepared-magnitude Distr.UniformTernary = refl
prepared-magnitude (Distr.Ternary minus plus) = refl
prepared-magnitude (Distr.FixedHammingWeightBinary h) = refl
prepared-magnitude (Distr.BlockBinary size occupancy) = refl
prepared-magnitude (Distr.FixedHammingWeightTernary h) = refl
prepared-magnitude (Distr.FixedCompositionTernary minus ones) = refl
prepared-magnitude (Distr.Gaussian deviation) = refl

-- So is the number of a length.
pub prepared-length : (d : SecretKeyDistr) (n : ℕ) → length_of (prepared d) n ≡ length_number (secret d) n
unfolding prepared length_number
prepared-length Distr.UniformBinary n = refl
prepared-length (Distr.Binary p) n = refl
prepared-length Distr.SparseTernary n = refl
prepared-length Distr.UniformTernary n = refl
prepared-length (Distr.Ternary minus plus) n = refl
prepared-length (Distr.FixedHammingWeightBinary h) n = refl
prepared-length (Distr.BlockBinary size occupancy) n = refl
prepared-length (Distr.FixedHammingWeightTernary h) n = refl
prepared-length (Distr.FixedCompositionTernary minus ones) n = refl
prepared-length (Distr.Gaussian deviation) n = refl

-- By what owning a distribution tells, the deviation of its method is a value of f64.
pub distr_fits : (d : SecretKeyDistr) (vs : List Val) → shadow (distr-field.row.own_val (distr-type.to d) vs)
    → T (fits binary64 (method_key (prepared d)).deviation)
unfolding prepared
distr_fits Distr.UniformBinary vs p = zero-fits
distr_fits (Distr.Binary q) vs p = zero-fits
distr_fits Distr.SparseTernary vs p = zero-fits
distr_fits Distr.UniformTernary vs p = zero-fits
distr_fits (Distr.Ternary minus plus) vs p = ternary-fits (sampler_of (threshold minus) (threshold plus))
distr_fits (Distr.FixedHammingWeightBinary h) vs p = zero-fits
distr_fits (Distr.BlockBinary size AtMostOne) vs p = zero-fits
distr_fits (Distr.BlockBinary size ExactlyOne) vs p = zero-fits
distr_fits (Distr.FixedHammingWeightTernary h) vs p = zero-fits
distr_fits (Distr.FixedCompositionTernary minus ones) vs p = zero-fits
distr_fits (Distr.Gaussian deviation) vs p = rw p.1.1.1.1.0.1 tt
