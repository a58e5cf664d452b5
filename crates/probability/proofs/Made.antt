-- What a caller of `threshold_of` reads off: the number, and the threshold that the flag and the u64 stand for.
use Rattle.std.proofs.Common.{◌≡◌, ℕ, ◌^◌, Bool, true, false, cond, eqb, sym, refl, eqb-true, Ok, Err}
use lib.Ieee.{Float}
use Rattle.distr.specs.declared.refusal.Refusal.TheVariants as Why
use Rattle.distr.specs.Making.{bad_probability, refuse}
use Rattle.distr.specs.Refusals.{number_of, Makes}
use Rattle.distr.specs.Thresholds.{threshold}
use Rattle.probability.specs.Made.{flagged, made_threshold}

-- The flag and the u64 lose nothing.
pub flagged-value : (t : ℕ) → cond (flagged t).full (2 ^ 64) (flagged t).below ≡ t
flagged-value t = go (eqb t (2 ^ 64)) refl
  where
    go : (b : Bool) → eqb t (2 ^ 64) ≡ b → cond (flagged t).full (2 ^ 64) (flagged t).below ≡ t
    go true e = rw e (sym (eqb-true t (2 ^ 64) e))
    go false e = rw e

-- The number is that of document 01, and what is made is the threshold.
pub makes_threshold : (p : Float) → Makes (refuse (bad_probability p) 1) (flagged (threshold p)) (made_threshold p)
unfolding made_threshold
makes_threshold p = go (bad_probability p)
  where
    go : (b : Bool) → Makes (refuse b 1) (flagged (threshold p)) (cond b (Err Why.InvalidProbabilities) (Ok (flagged (threshold p))))
    go true = (refl, tt)
    go false = (refl, refl)

pub made-number : (p : Float) → number_of (made_threshold p) ≡ refuse (bad_probability p) 1
made-number p = (makes_threshold p).0

pub made-threshold : (p : Float) → bad_probability p ≡ false → made_threshold p ≡ Ok (flagged (threshold p))
unfolding made_threshold
made-threshold p e = rw e
