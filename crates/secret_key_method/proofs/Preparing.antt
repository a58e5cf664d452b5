-- Two probabilities that are not refused: neither is refused alone, and each has its threshold.
use mathlib.Core.Path.{◌≡◌, sym, ◌∙◌}
use mathlib.Core.Bool.{false, ◌||◌}
use Rattle.std.specs.Prelude.{Result, Ok, Err}
use lib.Ieee.{Float}
use Rattle.distr.specs.declared.refusal.Refusal.{Refusal}
use Rattle.distr.specs.declared.threshold.Threshold.{Threshold}
use Rattle.distr.specs.Making.{bad_probability, bad_probabilities, refuse}
use Rattle.distr.specs.Thresholds.{threshold}
use Rattle.distr.proofs.Drawing.{not-refused}
use Rattle.distr.proofs.Reading.{or_false}
use Rattle.probability.specs.Made.{flagged, made_threshold}
use Rattle.probability.proofs.Made.{flagged-value, made-threshold}
use Rattle.words.specs.Reading.{threshold_value}

pub both_good : (minus plus : Float) → 0 ≡ refuse (bad_probabilities minus plus) 1 → (bad_probability minus ≡ false) × (bad_probability plus ≡ false)
both_good minus plus h = or_false _ _ (or_false (bad_probability minus || bad_probability plus) _ (not-refused _ 0 (sym h))).0

module _ (p : Float) (good : bad_probability p ≡ false) where
  pub never_refused : {why : Refusal} → Err why ≡ made_threshold p → ⊥
  never_refused {why} e = let no : ◌≡◌ {A = Result Threshold Refusal} (Err why) (Ok (flagged (threshold p))) = e ∙ made-threshold p good in cc

  pub value_of : {t : Threshold} → Ok t ≡ made_threshold p → threshold_value t ≡ threshold p
  value_of {t} e =
      let same : ◌≡◌ {A = Result Threshold Refusal} (Ok t) (Ok (flagged (threshold p))) = e ∙ made-threshold p good in
      let made : t ≡ flagged (threshold p) = cc in
      rw made (flagged-value (threshold p))
