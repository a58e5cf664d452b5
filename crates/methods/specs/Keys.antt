-- The key of a method, by which two methods are compared: its kind, and what it holds (0 where it holds nothing). When two keys are the same.
use Rattle.std.specs.Prelude.{ℕ, Bool, false, ◌&&◌, ◌||◌, eqb, Float}
use Rattle.std.specs.Bool.{beq}
use Rattle.std.specs.Float.Ieee.{eq}
use Rattle.distr.specs.declared.secret_key_distr.BlockOccupancy.TheVariants.{AtMostOne, ExactlyOne}
use Rattle.distr.specs.Constants.{literal}
use Rattle.ternary.specs.declared.ternary.TernaryValue.TheVariants.{MinusOne, Zero, One}
use Rattle.ternary.specs.declared.ternary.TernaryEnds.{TernaryEnds}
use Rattle.ternary.specs.declared.ternary.TernaryEnds.TheVariants.{Constant, Nonzero, General}
use Rattle.methods.specs.declared.SamplingMethod.{SamplingMethod}
use Rattle.methods.specs.declared.SamplingMethod.TheVariants.{UniformBinary, Binary, SparseTernary, UniformTernary, Ternary, Empty}
use Rattle.methods.specs.declared.SamplingMethod.TheVariants.{FixedHammingWeightBinary, BlockBinary, Gaussian, CenteredBinomial}
use Rattle.methods.specs.declared.SamplingMethod.TheVariants.{FixedHammingWeightTernary, FixedCompositionTernary}

-- One record for all methods: the kind, and what it holds (0 where it holds nothing).
pub record MethodKey : Type 0 where
  pub kind : ℕ
  pub full : Bool
  pub first : ℕ
  pub second : ℕ
  pub deviation : Float

abbrev pub key_of : ℕ → Bool → ℕ → ℕ → Float → MethodKey
key_of kind full first second deviation = record { kind = kind; full = full; first = first; second = second; deviation = deviation }

-- The key of a kind that holds two numbers at most; 0.0 stands for the deviation.
abbrev pub plain_key : ℕ → ℕ → ℕ → MethodKey
plain_key kind first second = key_of kind false first second (literal 0 1)

abbrev pub ternary_key : TernaryEnds → MethodKey
ternary_key (Constant MinusOne) = plain_key 5 0 0
ternary_key (Constant Zero) = plain_key 6 0 0
ternary_key (Constant One) = plain_key 7 0 0
ternary_key (Nonzero N) = plain_key 8 N 0
ternary_key (General N E) = plain_key 9 N E

abbrev pub method_key : SamplingMethod → MethodKey
method_key UniformBinary = plain_key 1 0 0
method_key (Binary t) = key_of 2 t.full t.below 0 (literal 0 1)
method_key SparseTernary = plain_key 3 0 0
method_key UniformTernary = plain_key 4 0 0
method_key (Ternary s) = ternary_key s
method_key (FixedHammingWeightBinary h) = plain_key 10 h 0
method_key (BlockBinary size AtMostOne) = plain_key 11 size 0
method_key (BlockBinary size ExactlyOne) = plain_key 12 size 0
method_key (FixedHammingWeightTernary h) = plain_key 13 h 0
method_key (FixedCompositionTernary minus ones) = plain_key 14 minus ones
method_key (Gaussian parameters) = key_of 15 false parameters.maximum_magnitude 0 parameters.standard_deviation
method_key (CenteredBinomial parameters) = plain_key 16 parameters.eta parameters.mask
method_key Empty = plain_key 0 0 0

-- The same key, floats as f64 compares them.
abbrev pub same_key : MethodKey → MethodKey → Bool
same_key a b =
    eqb a.kind b.kind && beq a.full b.full && eqb a.first b.first && eqb a.second b.second && eq a.deviation b.deviation

-- The centered binomial's method; and "CRT draws serve the Gaussian and the centered binomial".
abbrev pub is_binomial : SamplingMethod → Bool
is_binomial method = eqb (method_key method).kind 16

abbrev pub is_served : SamplingMethod → Bool
is_served method = eqb (method_key method).kind 15 || eqb (method_key method).kind 16
