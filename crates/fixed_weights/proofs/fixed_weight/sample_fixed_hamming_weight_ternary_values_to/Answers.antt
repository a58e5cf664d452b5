use Rattle.distr.proofs.Skipping.{refusal_reports}
use Rattle.fixed_weights.proofs.Weighing.{lone_refused}
use Rattle.fixed_weights.proofs.fixed_weight.sample_fixed_hamming_weight_ternary_values_to.Goals as goal

pub returns-in-Err-clause-output_after : goal.returns-in-Err-clause-output_after
returns-in-Err-clause-output_after g c = lone_refused _ _ _ _ _ _ _ c.in-Err.ensures c.refused.ensures

pub returns-in-Err-clause-result_value : goal.returns-in-Err-clause-result_value
returns-in-Err-clause-result_value g c = refusal_reports _ _ c.refused.ensures
