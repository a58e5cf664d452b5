use Rattle.distr.proofs.Skipping.{refusal_reports}
use Rattle.block_binary.proofs.draw.sample_block_binary_values_to.Goals as goal

pub returns-in-Err-clause-result_value : goal.returns-in-Err-clause-result_value
returns-in-Err-clause-result_value g c = refusal_reports _ _ c.refused.ensures
