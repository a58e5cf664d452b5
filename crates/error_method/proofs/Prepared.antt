-- A method prepared for an accepted error distribution: one with its key is that one, its largest magnitude and the lengths that it takes are the
-- distribution's, and its floats are values of f64.
use Prim.Native.Nat.{ℕ}
use native.Mathlib.Omega.{arith}
use mathlib.Core.Path.{◌≡◌, refl}
use mathlib.Core.Bool.{true}
use mathlib.Core.List.{List}
use lib.Dec.{T}
use lib.Ieee.{binary64, fits}
use mir.Val.{Val}
use denote.Shadow.{shadow}
use Rattle.distr.specs.declared.error_distribution.ErrorDistribution.{ErrorDistribution}
use Rattle.distr.specs.declared.error_distribution.ErrorDistribution.TheVariants as Distr
use Rattle.distr.specs.Distribution.{error}
use Rattle.distr.specs.Making.{error_number, largest}
use Rattle.distr.specs.Numbers.{length_number}
use Rattle.distr.specs.contracts.error_distribution.ErrorDistribution.{the_field as distr-field, the_type as distr-type}
use Rattle.gaussian_core.proofs.Made.{made-positive}
use Rattle.methods.specs.declared.SamplingMethod.{SamplingMethod}
use Rattle.methods.specs.Method.{magnitude_of, length_of}
use Rattle.methods.specs.Keys.{same_key, method_key}
use Rattle.methods.proofs.Deviation.{zero-fits}
use Rattle.methods.proofs.SameMethod.{Kept, other, gaussian, same_kept, kept_same}
use Rattle.error_method.specs.Method.{prepared}

kept : (d : ErrorDistribution) → error_number d ≡ 0 → Kept (method_key (prepared d)).kind (method_key (prepared d)).deviation
unfolding prepared error_number
kept (Distr.Gaussian deviation) z = gaussian (made-positive deviation z)
kept (Distr.CenteredBinomial eta) z = other (λ e. omega (arith, e)) refl

pub same-prepared : (m : SamplingMethod) (d : ErrorDistribution) → error_number d ≡ 0
    → T (fits binary64 (method_key m).deviation) → T (fits binary64 (method_key (prepared d)).deviation)
    → T (same_key (method_key m) (method_key (prepared d))) → m ≡ prepared d
same-prepared m d z = same_kept (prepared d) (kept d z) m

pub prepared-same : (d : ErrorDistribution) → error_number d ≡ 0 → same_key (method_key (prepared d)) (method_key (prepared d)) ≡ true
prepared-same d z = kept_same (prepared d) (kept d z)

pub prepared-magnitude : (d : ErrorDistribution) → magnitude_of (prepared d) ≡ largest (error d)
unfolding prepared largest
prepared-magnitude (Distr.Gaussian deviation) = refl
prepared-magnitude (Distr.CenteredBinomial eta) = refl

pub prepared-length : (d : ErrorDistribution) (n : ℕ) → length_of (prepared d) n ≡ length_number (error d) n
unfolding prepared length_number
prepared-length (Distr.Gaussian deviation) n = refl
prepared-length (Distr.CenteredBinomial eta) n = refl

pub distr_fits : (d : ErrorDistribution) (vs : List Val) → shadow (distr-field.row.own_val (distr-type.to d) vs)
    → T (fits binary64 (method_key (prepared d)).deviation)
unfolding prepared
distr_fits (Distr.Gaussian deviation) vs p = rw p.1.1.1.1.0.1 tt
distr_fits (Distr.CenteredBinomial eta) vs p = zero-fits
