-- The error sampler as a kind of sampler, by which the laws of making hold of it; and number 21.
use mathlib.Core.Path.{◌≡◌, refl}
use mathlib.Core.Bool.{Bool, false, not}
use lib.Dec.{T}
use lib.Ieee.{binary64, fits}
use Rattle.std.specs.Prelude.{Result}
use Rattle.distr.specs.declared.refusal.Refusal.{Refusal}
use Rattle.distr.specs.Constants.{never_made}
use Rattle.distr.specs.Refusals.{Makes as Prepares}
use Rattle.distr.specs.declared.error_distribution.ErrorDistribution.{ErrorDistribution}
use Rattle.distr.specs.Distribution.{error}
use Rattle.distr.specs.Making.{error_number, making_number, refuse, largest}
use Rattle.draw_laws.proofs.Making as Making
use Rattle.draw_laws.proofs.Making.{Makes, call_number, call_prepares}
use Rattle.methods.specs.declared.SamplingMethod.{SamplingMethod}
use Rattle.methods.specs.Method.{magnitude_of}
use Rattle.methods.specs.Keys.{method_key, same_key}
use Rattle.error_method.specs.Method.{prepared}
use Rattle.error_method.proofs.Prepared.{same-prepared, prepared-same, prepared-magnitude}
use Rattle.method_draws.specs.Drawing.{prepared_method}
use Rattle.error_sampler.specs.declared.ErrorSampler.{ErrorSampler}
use Rattle.error_sampler.specs.declared.MadeErrorSampler.{MadeErrorSampler}
use Rattle.error_sampler.specs.Sampler.{empty_sampler, making, is_made}

pub judges : (d : ErrorDistribution) → making_number (error d) ≡ error_number d
unfolding making_number
judges d = refl

abbrev pub makes : Makes ErrorDistribution SamplingMethod ErrorSampler MadeErrorSampler
makes = record {
  kind = error;
  judge = error_number;
  prepared = prepared;
  magnitude = magnitude_of;
  fits = λ m. fits binary64 (method_key m).deviation;
  same = λ m other. same_key (method_key m) (method_key other);
  holding = λ d m. record { distribution = d; method = m };
  distr_of = λ s. s.distribution;
  method_of = λ s. s.method;
  empty = empty_sampler;
  made = λ n s. record { number = n; sampler = s };
  number = λ r. r.number;
  sampler = λ r. r.sampler;
  judges = judges;
  prepared-magnitude = prepared-magnitude;
  same-prepared = same-prepared;
  prepared-same = prepared-same;
  distr_of_lem = λ d m. refl;
  method_of_lem = λ d m. refl;
  whole = λ s. refl;
  number_of = λ n s. refl;
  sampler_of_lem = λ n s. refl;
}

pub prepares : (d : ErrorDistribution) → prepared_method (error d) ≡ prepared d
unfolding prepared_method
prepares d = refl

abbrev pub fitting : ErrorSampler → Bool
fitting = Making.fitting makes

-- "21 a sampler that making never gives": one that passes the test is made from some distribution, and one that is made passes.
pub made_some : (s : ErrorSampler) → T (fitting s) → T (is_made s) → (d : ErrorDistribution) × (making d ≡ record { number = 0; sampler = s })
made_some = Making.good-given makes

pub some-made : (s : ErrorSampler) (d : ErrorDistribution) → making d ≡ record { number = 0; sampler = s } → T (is_made s)
some-made s d = Making.given-good makes d s

-- "The empty one included."
pub empty_not-made : is_made empty_sampler ≡ false
unfolding error_number prepared
empty_not-made = refl

-- What a sampler that passes keeps.
pub made_accepted : (s : ErrorSampler) → T (is_made s) → error_number s.distribution ≡ 0
made_accepted = Making.good_accepted makes

pub made-method : (s : ErrorSampler) → T (fitting s) → T (is_made s) → s.method ≡ prepared s.distribution
made-method = Making.good-method makes

pub made-magnitude : (s : ErrorSampler) → T (fitting s) → T (is_made s) → magnitude_of s.method ≡ largest (error s.distribution)
made-magnitude = Making.good-magnitude makes

pub prepared-made : (d : ErrorDistribution) → error_number d ≡ 0 → T (is_made (record { distribution = d; method = prepared d }))
prepared-made = Making.prepared-good makes

-- A call that makes a sampler of d and draws by it: refused by the number of making, or by the method that is prepared for d.
module _ (d : ErrorDistribution) {m : MadeErrorSampler} (h : m ≡ making d) where
  pub made-refused : m.number ≡ making_number (error d)
  made-refused = call_number makes d m h

  pub made-method_of : m.number ≡ 0 → (r : Result SamplingMethod Refusal) → Prepares (refuse (not (is_made m.sampler)) never_made) m.sampler.method r
      → Prepares (making_number (error d)) (prepared_method (error d)) r
  made-method_of z r p = rw (prepares d) (call_prepares makes d m h z r p)
