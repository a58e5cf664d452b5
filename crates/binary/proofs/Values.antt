-- The rule of one threshold, and the value of a word by it.
use mathlib.Core.Path.{◌≡◌, refl}
use mathlib.Core.Bool.{Bool, true, false, not, cond}
use mathlib.Core.List.{List}
use Prim.Native.Nat.{ℕ, ◌^◌, ◌<◌}
use native.Mathlib.Omega.{arith}
use lib.Dec.{ltb, eqb, lit<}
use lib.IntN.{pos}
use mir.Val.{bool_byte}
use borrow.Author.Tests.{ne_eqb}
use Rattle.distr.specs.declared.threshold.Threshold.{Threshold}
use Rattle.distr.specs.Skipped.{nothing}
use Rattle.distr.specs.Rule.{constant, wide_words}
use Rattle.distr.specs.Thresholds.{binary_value, binary}
use Rattle.words.specs.Reading.{threshold_value}
use Rattle.numbers.specs.Answering.{wide_rule}
use Rattle.binary.specs.Below.{one_below}

-- one threshold: the rule, and the value of a word
pub binary-rule : (t : Threshold) (n : ℕ) → t.below < 2 ^ 64
    → binary (threshold_value t) n ≡ wide_rule (not t.full) (pos 1) (binary_value t.below) n
binary-rule t n h = go t.full refl
  where
    go : (full : Bool) → t.full ≡ full → binary (threshold_value t) n ≡ wide_rule (not full) (pos 1) (binary_value t.below) n
    go true e = rw e
    go false e = rw (e, ne_eqb t.below (2 ^ 64) (λ q. omega arith))

-- it skips nothing
pub binary-skips : (t n : ℕ) (ws : List ℕ) → (binary t n).skips ws ≡ nothing
binary-skips t n ws = go (eqb t (2 ^ 64))
  where
    go : (full : Bool) → (cond full (constant (pos 1) n) (wide_words n (binary_value t))).skips ws ≡ nothing
    go true = refl
    go false = refl

pub one-signed : (t w : ℕ) → pos (one_below t w) ≡ binary_value t w
unfolding one_below
one-signed t w = go (ltb w t)
  where
    go : (b : Bool) → pos (bool_byte b) ≡ cond b (pos 1) (pos 0)
    go true = refl
    go false = refl

-- and fits any element
pub one_fits : (t w : ℕ) → one_below t w < 2 ^ 63
unfolding one_below
one_fits t w = go (ltb w t)
  where
    go : (b : Bool) → bool_byte b < 2 ^ 63
    go true = lit< tt
    go false = lit< tt
