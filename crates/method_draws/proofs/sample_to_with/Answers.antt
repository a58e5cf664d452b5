use Rattle.distr.specs.Skipped.{nothing}
use Rattle.distr.specs.declared.refusal.Refusal.TheVariants as Why
use Rattle.distr.proofs.Skipping.{refusal_reports}
use Rattle.method_draws.specs.Drawing.{method_skips}
use Rattle.method_draws.proofs.Drawing.{by-table, by-layers, skips-by-table, skips-by-layers}
use Rattle.method_draws.proofs.sample_to_with.Goals as goal

-- a Gaussian is drawn by the cumulative table, or by the layers above it
pub returns-then-p-le-CDT_MAX_MAGNITUDE-clause-output_after : goal.returns-then-p-le-CDT_MAX_MAGNITUDE-clause-output_after
returns-then-p-le-CDT_MAX_MAGNITUDE-clause-output_after g c =
    by-table _ _ _ _ _ c.in-Gaussian.is c.if-p-le-CDT_MAX_MAGNITUDE.true c.sample_cdt_to.ensures.output_after

pub returns-then-p-le-CDT_MAX_MAGNITUDE-clause-result_value : goal.returns-then-p-le-CDT_MAX_MAGNITUDE-clause-result_value
returns-then-p-le-CDT_MAX_MAGNITUDE-clause-result_value g c =
    skips-by-table _ _ _ c.in-Gaussian.is _ c.if-p-le-CDT_MAX_MAGNITUDE.true c.sample_cdt_to.ensures.result_value

pub returns-else-p-le-CDT_MAX_MAGNITUDE-clause-output_after : goal.returns-else-p-le-CDT_MAX_MAGNITUDE-clause-output_after
returns-else-p-le-CDT_MAX_MAGNITUDE-clause-output_after g c =
    by-layers _ _ _ _ _ c.in-Gaussian.is c.if-p-le-CDT_MAX_MAGNITUDE.false c.sample_ziggurat_to.ensures.output_after

pub returns-else-p-le-CDT_MAX_MAGNITUDE-clause-result_value : goal.returns-else-p-le-CDT_MAX_MAGNITUDE-clause-result_value
returns-else-p-le-CDT_MAX_MAGNITUDE-clause-result_value g c =
    skips-by-layers _ _ _ c.in-Gaussian.is _ c.if-p-le-CDT_MAX_MAGNITUDE.false c.sample_ziggurat_to.ensures.result_value

pub returns-in-Empty-clause-result_value : goal.returns-in-Empty-clause-result_value
unfolding method_skips
returns-in-Empty-clause-result_value g c = rw c.in-Empty.is (refusal_reports Why.NeverMade nothing c.refused.ensures)
