-- The threshold of a probability as a function hands it back, or why it is refused.
use Rattle.std.specs.Prelude.{ℕ, ◌^◌, true, false, cond, ◌==◌, Float, Result, Ok, Err}
use Rattle.distr.specs.declared.threshold.Threshold.{Threshold}
use Rattle.distr.specs.declared.refusal.Refusal.{Refusal}
use Rattle.distr.specs.declared.refusal.Refusal.TheVariants as Why
use Rattle.distr.specs.Making.{bad_probability}
use Rattle.distr.specs.Thresholds.{threshold}

-- A threshold, 0 to 2^64, by the flag that stands for 2^64.
abbrev pub flagged : ℕ → Threshold
flagged t = cond (t == 2 ^ 64) (record { full = true; below = 0 }) (record { full = false; below = t })

-- What is no probability is refused, else ⌊p × 2^64⌋ is made.
unfoldable pub made_threshold : Float → Result Threshold Refusal
made_threshold p = cond (bad_probability p) (Err Why.InvalidProbabilities) (Ok (flagged (threshold p)))
