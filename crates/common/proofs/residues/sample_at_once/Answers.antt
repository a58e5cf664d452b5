use native.Mathlib.Omega.{arith}
use Rattle.distr.specs.Distribution.{secret}
use Rattle.distr.specs.Draw.{no_tables, encoded_at_once}
use Rattle.distr.specs.Making.{making_number}
use Rattle.method_draws.specs.Drawing.{prepared_method}
use Rattle.prepared_draws.proofs.Calls.{once_encoded}
use Rattle.common.proofs.residues.sample_at_once.Goals as goal

pub returns : goal.returns
unfolding encoded_at_once making_number prepared_method
returns c =
    let a = c.args in
    let drawn = c.sample_encoded_to.ensures in
    let both = once_encoded (secret a.distr) no_tables a.words.now a.place _ c.prepare-prepared.ensures a.modulus a.output.now (omega arith)
    (drawn.output_after, drawn.result_value) in
    record { output_after = both.0; result_value = both.1 }
