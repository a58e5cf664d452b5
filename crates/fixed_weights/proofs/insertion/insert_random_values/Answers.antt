use Rattle.std.proofs.Common.{length}
use Rattle.fixed_weights.specs.Plans.{plan_rule}
use Rattle.fixed_weights.proofs.Settling.{settled_some, settled_none, short_reports}
use Rattle.fixed_weights.proofs.insertion.insert_random_values.Goals as goal

pub returns-in-Some-clause-output_after : goal.returns-in-Some-clause-output_after
returns-in-Some-clause-output_after g c =
    let stop = c.in-Some.ensures in
    settled_some _ c.args.words.now c.args.place (plan_rule c.args.plan (length c.args.output.now)) _ _ _ c.requires.there stop.within stop.inserts c.succeeded_after.ensures

pub returns-in-None-clause-output_after : goal.returns-in-None-clause-output_after
returns-in-None-clause-output_after g c =
    let laws = g.met.T.Output in
    let stop = c.in-None.ensures in
    settled_none _ c.args.words.now c.args.place (plan_rule c.args.plan (length c.args.output.now)) _ _ _ _ _ (laws.held_each c.args.encoding) (laws.natural_held c.args.encoding 0) stop.inserts stop.keeps_length c.clear.ensures
    c.refused.ensures

pub returns-in-None-clause-result_value : goal.returns-in-None-clause-result_value
returns-in-None-clause-result_value g c = short_reports _ c.refused.ensures
