-- A reading of the rules as the functions hand it back: the value, and the place where the words left begin.
use Rattle.std.specs.Prelude.{ℕ, ◌-◌, ◌^◌, Bool, true, cond, Option, Some, None, List, length, drop}
use Rattle.distr.specs.declared.threshold.Threshold.{Threshold}
use Rattle.distr.specs.Words.{Read, got, short, chance}
use Rattle.words.specs.declared.Taken.{Taken}
use Rattle.words.specs.declared.Told.{Told}

-- Of `count` words in all, the place is where those left begin; `skipped` words were passed over.
unfoldable pub taken : ℕ → ℕ → Read ℕ → Option Taken
taken count skipped (got v rest) = Some (record { value = v; place = count - length rest; skipped = skipped })
taken count skipped short = None

unfoldable pub told : ℕ → Read Bool → Option Told
told count (got answer rest) = Some (record { yes = answer; place = count - length rest })
told count short = None

-- "Yes is a 64-bit word below it, and threshold 2^64 says yes without reading": the place stays then, whatever it is.
unfoldable pub told_chance : List ℕ → ℕ → Threshold → Option Told
told_chance words place t = cond t.full (Some (record { yes = true; place = place })) (told (length words) (chance t.below (drop place words)))

-- 2^64 where full, which a u64 cannot hold.
abbrev pub threshold_value : Threshold → ℕ
threshold_value t = cond t.full (2 ^ 64) t.below
