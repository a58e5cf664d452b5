-- The deviation in the key of a method: above zero, or 0.0 where there is none. Both are numbers, and 0.0 is a value of f64.
use mathlib.Core.Path.{◌≡◌, refl}
use mathlib.Core.Bool.{true, false}
use lib.Dec.{T}
use lib.Ieee.{Float, binary64, eq, fits, round}
use lib.Ieee.Fits.{round-fits}
use lib.Ieee.Positive.{positive, positive-finite}
use Rattle.distr.specs.Constants.{literal}
use Rattle.gaussian_core.proofs.SameFloat.{eq_self}

pub positive_equal : (x : Float) → T (positive x) → eq x x ≡ true
positive_equal x p = eq_self x (positive-finite x p)

pub zero_equal : eq (literal 0 1) (literal 0 1) ≡ true
unfolding eq round
zero_equal = refl

pub zero-fits : T (fits binary64 (literal 0 1))
zero-fits = round-fits binary64 false 0 1
