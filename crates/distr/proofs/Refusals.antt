-- No refusal has the number 0.
use mathlib.Core.Path.{◌≡◌}
use mathlib.Core.Bool.{false}
use lib.Dec.{eqb}
use borrow.Author.Tests.{ne_eqb}
use native.Mathlib.Omega.{arith}
use Rattle.distr.specs.declared.refusal.Refusal.{Refusal}
use Rattle.distr.specs.declared.refusal.Refusal.TheVariants as Why
use Rattle.distr.specs.Refusals.{number}

pub refuses : (why : Refusal) → number why ≡ 0 → ⊥
refuses Why.InvalidProbabilities z = omega arith
refuses Why.InvalidStandardDeviation z = omega arith
refuses Why.MaximumMagnitudeTooLarge z = omega arith
refuses Why.InvalidEta z = omega arith
refuses Why.InvalidBlockSize z = omega arith
refuses Why.OutputTooLong z = omega arith
refuses Why.InvalidWeight z = omega arith
refuses Why.InvalidBlockLength z = omega arith
refuses Why.ModulusTooSmall z = omega arith
refuses Why.ModulusZero z = omega arith
refuses Why.InvalidCrtShape z = omega arith
refuses Why.InvalidCumulativeTable z = omega arith
refuses Why.InvalidLayerTables z = omega arith
refuses Why.InvalidSheet z = omega arith
refuses Why.NeverMade z = omega arith
refuses Why.PastEnd z = omega arith
refuses Why.OutOfWords z = omega arith
refuses Why.ModulusOutOfRange z = omega arith
refuses Why.CountsLengthMismatch z = omega arith
refuses Why.ResidueNotCanonical z = omega arith
refuses Why.InvalidCbdEta z = omega arith
refuses Why.InvalidCbdLength z = omega arith
refuses Why.InvalidDeskRequest z = omega arith
refuses Why.InvalidEndpoint z = omega arith
refuses Why.InvalidHeight z = omega arith
refuses Why.InvalidCurveValue z = omega arith

pub refuses-eqb : (why : Refusal) → eqb (number why) 0 ≡ false
refuses-eqb why = ne_eqb (number why) 0 (refuses why)
