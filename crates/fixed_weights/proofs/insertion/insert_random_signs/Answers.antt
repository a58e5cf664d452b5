use Rattle.std.proofs.Common.{length}
use Rattle.distr.specs.Insertion.{signed_insertion}
use Rattle.fixed_weights.proofs.Settling.{settled_some, settled_none, short_reports, signs_used, signs_reports}
use Rattle.fixed_weights.proofs.insertion.insert_random_signs.Goals as goal

pub overflow_sub-at : goal.overflow_sub-at
overflow_sub-at g c =
    let stop = c.in-Some.ensures in
    signs_used _ _ (g.met.T.Output.held_each c.args.encoding) c.args.words.now c.args.place _ _ _ _ stop.within stop.inserts

pub returns-in-Some-clause-output_after : goal.returns-in-Some-clause-output_after
returns-in-Some-clause-output_after g c =
    let stop = c.in-Some.ensures in
    settled_some _ c.args.words.now c.args.place (signed_insertion c.args.hamming_weight (length c.args.output.now)) _ _ _ c.requires.there stop.within stop.inserts c.succeeded_after.ensures

pub returns-in-Some-clause-result_value : goal.returns-in-Some-clause-result_value
returns-in-Some-clause-result_value g c =
    let stop = c.in-Some.ensures in
    signs_reports _ _ (g.met.T.Output.held_each c.args.encoding) c.args.words.now c.args.place _ _ _ _ stop.within stop.inserts c.succeeded_after.ensures

pub returns-in-None-clause-output_after : goal.returns-in-None-clause-output_after
returns-in-None-clause-output_after g c =
    let laws = g.met.T.Output in
    let stop = c.in-None.ensures in
    settled_none _ c.args.words.now c.args.place (signed_insertion c.args.hamming_weight (length c.args.output.now)) _ _ _ _ _ (laws.held_each c.args.encoding) (laws.natural_held c.args.encoding 0) stop.inserts stop.keeps_length c.clear.ensures
    c.refused.ensures

pub returns-in-None-clause-result_value : goal.returns-in-None-clause-result_value
returns-in-None-clause-result_value g c = short_reports _ c.refused.ensures
