use Rattle.distr.proofs.Skipping.{refusal_reports}
use Rattle.fixed_weights.proofs.Judging.{weight_refused}
use Rattle.fixed_weights.proofs.Planning.{plan_room, plan_draws}
use Rattle.fixed_weights.proofs.PlanRules.{composition_planned}
use Rattle.fixed_weights.proofs.fixed_composition.sample_fixed_composition_ternary_values_to.Goals as goal

pub insert_random_values-requires-clause-room : goal.insert_random_values-requires-clause-room
insert_random_values-requires-clause-room g c =
    let planned = c.in-Ok.ensures in
    plan_room _ _ _ _ _ _ (composition_planned _ _ _) _ planned.0 planned.1

pub returns-in-Ok-clause-output_after : goal.returns-in-Ok-clause-output_after
returns-in-Ok-clause-output_after g c =
    let planned = c.in-Ok.ensures in
    plan_draws _ _ _ _ _ _ _ _ (composition_planned _ _ _) planned.0 planned.1 c.insert_random_values.ensures.output_after

pub returns-in-Err-clause-output_after : goal.returns-in-Err-clause-output_after
returns-in-Err-clause-output_after g c = weight_refused _ _ _ _ _ _ _ c.in-Err.ensures.0 c.refused.ensures

pub returns-in-Err-clause-result_value : goal.returns-in-Err-clause-result_value
returns-in-Err-clause-result_value g c = refusal_reports _ _ c.refused.ensures
