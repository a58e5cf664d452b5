use Rattle.secret_key_method.proofs.Preparing.{both_good, never_refused, value_of}
use Rattle.secret_key_method.proofs.prepare.ternary_ends.Goals as goal

pub returns-in_err-below : goal.returns-in_err-below
returns-in_err-below c =
    absurd (never_refused _ (both_good _ _ c.in_ok-check_ternary_probabilities.ensures).0 c.in_err-below.ensures)

pub returns-in_err-above : goal.returns-in_err-above
returns-in_err-above c =
    absurd (never_refused _ (both_good _ _ c.in_ok-check_ternary_probabilities.ensures).1 c.in_err-above.ensures)

pub returns : goal.returns
returns c =
    let good = both_good _ _ c.in_ok-check_ternary_probabilities.ensures in (
      c.in_ok-check_ternary_probabilities.ensures,
      rw (c.from_thresholds.ensures, value_of _ good.0 c.in_ok-below.ensures, value_of _ good.1 c.in_ok-above.ensures),
    )
