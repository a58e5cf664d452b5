use Rattle.by_division.proofs.Answering.{signed-answered}
use Rattle.by_division.proofs.signed.sample_uniform_ternary_values_by_division_to.Goals as goal

pub returns : goal.returns
returns c =
    let a = c.args in
    let drawn = c.sample_uniform_ternary_values_by_division_to.ensures in
    let both = signed-answered a.words.now a.place a.output.now (drawn.output_after, drawn.result_value) in
    record { output_after = both.0; result_value = both.1 }
