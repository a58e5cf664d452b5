use Rattle.std.proofs.Common.{refl}
use Rattle.method_draws.specs.Drawing.{method_draw, method_skips}
use Rattle.method_draws.proofs.Drawing.{by-table, by-layers, skips-by-table, skips-by-layers}
use Rattle.prepared_draws.proofs.Rows.{unserved, row-refused, row_served}
use Rattle.prepared_draws.proofs.crt_draw.draw_row.Goals as goal

pub returns-then-p-le-CDT_MAX_MAGNITUDE : goal.returns-then-p-le-CDT_MAX_MAGNITUDE
returns-then-p-le-CDT_MAX_MAGNITUDE c =
    let told = c.in-Gaussian.is in record {
      output_after = row_served _ _ _ _ refl told (by-table _ _ _ _ _ told c.if-p-le-CDT_MAX_MAGNITUDE.true c.sample_cdt_to.ensures.output_after);
      result_value = skips-by-table _ _ _ told _ c.if-p-le-CDT_MAX_MAGNITUDE.true c.sample_cdt_to.ensures.result_value;
    }

pub returns-else-p-le-CDT_MAX_MAGNITUDE : goal.returns-else-p-le-CDT_MAX_MAGNITUDE
returns-else-p-le-CDT_MAX_MAGNITUDE c =
    let told = c.in-Gaussian.is in record {
      output_after = row_served _ _ _ _ refl told (by-layers _ _ _ _ _ told c.if-p-le-CDT_MAX_MAGNITUDE.false c.sample_ziggurat_to.ensures.output_after);
      result_value = skips-by-layers _ _ _ told _ c.if-p-le-CDT_MAX_MAGNITUDE.false c.sample_ziggurat_to.ensures.result_value;
    }

pub returns-in-CenteredBinomial : goal.returns-in-CenteredBinomial
returns-in-CenteredBinomial c =
    let told = c.in-CenteredBinomial.is in record {
      output_after = row_served _ _ _ _ refl told (unfold method_draw in rw told c.sample_binomial_to.ensures.output_after);
      result_value = unfold method_skips in rw told c.sample_binomial_to.ensures.result_value;
    }

pub returns-in_default : goal.returns-in_default
returns-in_default c =
    let both = row-refused _ _ _ _ (unserved c.args.method c.in_default.not-Gaussian c.in_default.not-CenteredBinomial) refl c.refused.ensures in
    record { output_after = both.0; result_value = both.1 }
