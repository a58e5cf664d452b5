use Rattle.std.proofs.Common.{length, sym, refl}
use Rattle.distr.proofs.Refusals.{refuses-eqb}
use Rattle.stats.specs.Report.{report}
use Rattle.stats.proofs.Centering.{sum_is, squares-is}
use Rattle.stats.proofs.Reports.{Accepted, accepted}
use Rattle.stats.proofs.residue_report.Goals as goal
use Rattle.stats.proofs.residue_report.Goals.{In_default}

pub returns-in-Err : goal.returns-in-Err
unfolding report
returns-in-Err c = rw (← c.in-Err.ensures, refuses-eqb c.in-Err.why, c.refused.ensures) refl

-- what is not refused is what the counts and the sums ask for
good : (c : In_default) → Accepted c.args.residues.now c.args.modulus (length c.args.limits.now) (length c.args.counts.now)
good c = accepted c.args.residues.now c.args.modulus (length c.args.limits.now) (length c.args.counts.now) (sym c.in_default.ensures)

pub count_limits-requires : goal.count_limits-requires
count_limits-requires c = let g = good (goal.at.count_limits-requires c).In_default in (g.few, g.modulus_most, g.below, g.same)

pub sum_residues-requires : goal.sum_residues-requires
sum_residues-requires c = let g = good (goal.at.sum_residues-requires c).In_default in (g.few, g.modulus_most, g.below)

pub returns : goal.returns
unfolding report
returns c =
    let a = c.args in
    let totals = c.sum_residues.ensures in
    rw (← c.in_default.ensures, sum_is a.modulus a.residues.now, squares-is a.modulus a.residues.now)
    (rw (c.exact.ensures, c.count_limits.ensures, totals.residues, totals.moduli, totals.squares) refl)
