-- The reports that were worked out by hand are what the definitions give.
use Rattle.std.proofs.Common.{◌≡◌, map, refl}
use Rattle.distr.specs.Numbers.{first_of}
use Rattle.stats.specs.Centered.{centered, sum_of, squares_of, how_many_within, all_below}
use Rattle.stats.specs.Report.{report_number, report}
use Rattle.stats.specs.Worked.{Case, worked}

pub worked_cases : map (λ (c : Case). c.given) worked ≡ map (λ (c : Case). c.stated) worked
unfolding worked report report_number first_of centered sum_of squares_of how_many_within all_below
worked_cases = refl
