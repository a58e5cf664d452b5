-- Half over a first height above 0.999 is a probability.
use mathlib.Core.Path.{◌≡◌, ap, ◌∙◌}
use mathlib.Core.Bool.{true, false, ◌&&◌}
use Prim.Native.Nat.{ℕ, ◌*◌, ◌<◌}
use native.Mathlib.Nat.{zero-lt-suc}
use native.Mathlib.Omega.{arith}
use lib.Dec.{T, ltb→lt}
use borrow.Author.Tests.{ne_eqb}
use lib.Ieee.{Float, nan, inf, fin, binary64, up, down, round, div, lt, le}
use lib.Ieee.Fits.{down_pos}
use lib.Ieee.Order.{round_mono}
use lib.Ieee.Positive.{first_pos}
use lib.Ieee.Scale.{finite}
use lib.ListN.{length, get_or}
use Rattle.std.specs.Prelude.{Result}
use Rattle.distr.specs.declared.threshold.Threshold.{Threshold}
use Rattle.distr.specs.declared.refusal.Refusal.{Refusal}
use Rattle.distr.specs.Constants.{literal}
use Rattle.distr.specs.Layered.{Layers, in_unit, layer_tables, zero_threshold}
use Rattle.distr.specs.Thresholds.{threshold}
use Rattle.distr.specs.Making.{bad_probability}
use Rattle.distr.proofs.Reading.{and_both, T_true}
use Rattle.words.specs.Reading.{threshold_value}
use Rattle.probability.proofs.Made.{flagged-value, made-threshold}
use Rattle.distr.proofs.FirstWrong.{get_d_there}
use Rattle.ziggurat.specs.Sampling.{zero_over, made_or_none}
use Rattle.ziggurat.proofs.LayerTables.{some-layers, heights_count, first-finite, first-high}

-- what lies between 0 and 1 is finite
unit_finite : (p : Float) → T (le (literal 0 1) p) → T (le p (literal 1 1)) → T (finite p)
unfolding le lt round
unit_finite nan low high = absurd high
unit_finite (inf true) low high = absurd low
unit_finite (inf false) low high = absurd high
unit_finite (fin s m e) low high = tt

good : (p : Float) → T (le (literal 0 1) p) → T (le p (literal 1 1)) → bad_probability p ≡ false
good p low high =
    let unit = and_both (le (literal 0 1) p) (le p (literal 1 1)) low high in
    rw (T_true (finite p && in_unit p) (and_both (finite p) (in_unit p) (unit_finite p low high) unit))

pub half_over : (h : Float) → T (finite h) → T (lt (literal 999 1000) h) → bad_probability (div binary64 (literal 1 2) h) ≡ false
unfolding lt round div
half_over nan f t = absurd f
half_over (inf s) f t = absurd f
half_over (fin true m e) f t = absurd t
half_over (fin false m e) f t =
    let high : 8998192055486251 * 1 * down e < m * up e * 9007199254740992 = ltb→lt (8998192055486251 * 1 * down e) (m * up e * 9007199254740992) t in
    let some : 0 < m = first_pos m (up e) (omega (arith, down_pos e)) in
    let over : 0 < m * up e * 2 = omega (arith, down_pos e) in
    rw (ne_eqb m 0 (λ z. omega arith))
    (good (round binary64 false (1 * down e) (m * up e * 2))
    (round_mono binary64 0 1 (1 * down e) (m * up e * 2) (zero-lt-suc 0) over (omega arith))
    (round_mono binary64 (1 * down e) (m * up e * 2) 1 1 over (zero-lt-suc 0) (omega arith)))

-- good tables have a first height, and the threshold made by it is that of zero
module _ (M : ℕ) (t : Layers) (good-tables : T (layer_tables M t)) where
  pub first-there : 0 < length t.heights
  first-there = omega (arith, heights_count M t good-tables, some-layers M t good-tables)

  pub zero-made : {made : Threshold} → made ≡ zero_over (get_or t.heights 0 nan) → threshold_value made ≡ zero_threshold t
  zero-made e =
      let first = get_or t.heights 0 (literal 0 1) in
      let p = div binary64 (literal 1 2) first in
      ap threshold_value e
      ∙ ap (λ (h : Float). threshold_value (zero_over h)) (get_d_there t.heights 0 nan (literal 0 1) first-there)
      ∙ ap (λ (r : Result Threshold Refusal). threshold_value (made_or_none r)) (made-threshold p (half_over first (first-finite M t good-tables) (first-high M t good-tables)))
      ∙ flagged-value (threshold p)
