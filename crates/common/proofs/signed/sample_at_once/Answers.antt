use Rattle.distr.specs.Distribution.{secret}
use Rattle.distr.specs.Draw.{no_tables, signed_at_once}
use Rattle.distr.specs.Making.{making_number}
use Rattle.method_draws.specs.Drawing.{prepared_method}
use Rattle.prepared_draws.proofs.Calls.{once_signed}
use Rattle.common.proofs.signed.sample_at_once.Goals as goal

pub returns : goal.returns
unfolding signed_at_once making_number prepared_method
returns c =
    let a = c.args in
    let drawn = c.sample_signed_to.ensures in
    let both = once_signed (secret a.distr) no_tables a.words.now a.place _ c.prepare-by.ensures a.output.now (drawn.output_after, drawn.result_value) in
    record { output_after = both.0; result_value = both.1 }
