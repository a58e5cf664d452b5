-- What making a Gaussian hands back, by its support.
use Rattle.std.proofs.Common.{◌≡◌, ℕ, ◌<◌, ◌≤◌, Bool, true, false, cond, T, refl, arith, le-ltb, lt-ltb, ltb, Ok, Err}
use lib.Ieee.{Float}
use lib.Ieee.Positive.{positive}
use Rattle.distr.specs.declared.refusal.Refusal.TheVariants as Why
use Rattle.distr.specs.Gaussian.{support}
use Rattle.distr.specs.Constants.{support_limit}
use Rattle.distr.specs.Making.{bad_deviation, gaussian_number}
use Rattle.distr.specs.Refusals.{Makes}
use Rattle.gaussian_core.specs.Made.{parameters_of, made_support, beside, made_parameters}
use Rattle.gaussian_core.proofs.Support.{deviation-positive}

-- A support above the limit is refused, another made.
pub support-large : (d : Float) → support_limit < support d → Err Why.MaximumMagnitudeTooLarge ≡ made_support d
unfolding made_support
support-large d l = rw (lt-ltb _ _ l)

pub support-small : (d : Float) → support d ≤ support_limit → Ok (support d) ≡ made_support d
unfolding made_support
support-small d l = rw (le-ltb _ _ l)

-- What a caller of `new_parameters` reads off: the number, and the record where it is 0.
pub makes_parameters : (d : Float) → Makes (gaussian_number d) (parameters_of d) (made_parameters d)
unfolding made_parameters made_support
makes_parameters d = go (bad_deviation d) (ltb support_limit (support d))
  where
    go : (bad large : Bool)
        → Makes (cond bad 2 (cond large 3 0)) (parameters_of d)
        (cond bad (Err Why.InvalidStandardDeviation) (beside d (cond large (Err Why.MaximumMagnitudeTooLarge) (Ok (support d)))))
    go true large = (refl, tt)
    go false true = (refl, tt)
    go false false = (refl, refl)

-- An accepted deviation is a number above zero.
pub made-positive : (d : Float) → gaussian_number d ≡ 0 → T (positive d)
made-positive d e = deviation-positive d (go (bad_deviation d) _ e)
  where
    go : (b : Bool) (n : ℕ) → cond b 2 n ≡ 0 → b ≡ false
    go true n h = absurd (omega (arith, h))
    go false n h = refl
