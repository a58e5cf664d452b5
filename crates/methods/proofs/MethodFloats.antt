-- The floats of a method that code holds are values of f64, by what owning it tells.
use mathlib.Core.List.{List}
use lib.Dec.{T}
use lib.Ieee.{binary64, fits}
use mir.Val.{Val}
use denote.Shadow.{shadow}
use Rattle.distr.specs.declared.secret_key_distr.BlockOccupancy.TheVariants.{AtMostOne, ExactlyOne}
use Rattle.ternary.specs.declared.ternary.TernaryValue.TheVariants.{MinusOne, Zero, One}
use Rattle.ternary.specs.declared.ternary.TernaryEnds.{TernaryEnds}
use Rattle.ternary.specs.declared.ternary.TernaryEnds.TheVariants.{Constant, Nonzero, General}
use Rattle.methods.specs.declared.SamplingMethod.{SamplingMethod}
use Rattle.methods.specs.declared.SamplingMethod.TheVariants.{UniformBinary, Binary, SparseTernary, UniformTernary, Ternary, Empty}
use Rattle.methods.specs.declared.SamplingMethod.TheVariants.{FixedHammingWeightBinary, BlockBinary, Gaussian, CenteredBinomial}
use Rattle.methods.specs.declared.SamplingMethod.TheVariants.{FixedHammingWeightTernary, FixedCompositionTernary}
use Rattle.methods.specs.Keys.{ternary_key, method_key}
use Rattle.methods.proofs.Deviation.{zero-fits}
use Rattle.methods.specs.contracts.SamplingMethod.{the_field as method-field, the_type as method-type}

pub ternary-fits : (s : TernaryEnds) → T (fits binary64 (ternary_key s).deviation)
ternary-fits (Constant MinusOne) = zero-fits
ternary-fits (Constant Zero) = zero-fits
ternary-fits (Constant One) = zero-fits
ternary-fits (Nonzero N) = zero-fits
ternary-fits (General N E) = zero-fits

pub method-fits : (m : SamplingMethod) (vs : List Val) → shadow (method-field.row.own_val (method-type.to m) vs)
    → T (fits binary64 (method_key m).deviation)
method-fits UniformBinary vs p = zero-fits
method-fits (Binary t) vs p = zero-fits
method-fits SparseTernary vs p = zero-fits
method-fits UniformTernary vs p = zero-fits
method-fits (Ternary s) vs p = ternary-fits s
method-fits (FixedHammingWeightBinary h) vs p = zero-fits
method-fits (BlockBinary size AtMostOne) vs p = zero-fits
method-fits (BlockBinary size ExactlyOne) vs p = zero-fits
method-fits (FixedHammingWeightTernary h) vs p = zero-fits
method-fits (FixedCompositionTernary minus ones) vs p = zero-fits
method-fits (Gaussian parameters) vs p = rw p.1.1.1.1.0.1.1.0.1 tt
method-fits (CenteredBinomial parameters) vs p = zero-fits
method-fits Empty vs p = zero-fits
