-- The floats of a sampler that code holds are values of f64, by what owning it tells: for a parameter `s`, `sampler_fits s _ c.good.0`.
use mathlib.Core.List.{List}
use lib.Dec.{T}
use lib.Ieee.{binary64, fits}
use lib.Ieee.Fits.{and_i}
use mir.Val.{Val}
use denote.Shadow.{shadow}
use denote.Struct.Declared.{row}
use Rattle.methods.specs.Keys.{method_key}
use Rattle.error_method.specs.Method.{prepared}
use Rattle.methods.proofs.MethodFloats.{method-fits}
use Rattle.error_method.proofs.Prepared.{distr_fits}
use Rattle.error_sampler.specs.declared.ErrorSampler.{ErrorSampler}
use Rattle.error_sampler.specs.contracts.ErrorSampler.{the_type as sampler-type}
use Rattle.error_sampler.proofs.Made.{fitting}

pub sampler_fits : (s : ErrorSampler) (vs : List Val) → shadow ((row sampler-type).own_val s vs) → T (fitting s)
sampler_fits s vs p =
    and_i (fits binary64 (method_key s.method).deviation) (fits binary64 (method_key (prepared s.distribution)).deviation)
    (method-fits s.method _ p.1.1.1.0) (distr_fits s.distribution _ p.1.1.0)
