use Rattle.std.proofs.Common.{not, ap}
use Rattle.distr.specs.FirstWrong.{endpoints_asked}
use Rattle.layer_tables.proofs.Searching.{searched_more, searched_found, searched_all, entry}
use Rattle.layer_tables.proofs.first_wrong.first_wrong_endpoint.Goals as goal

pub returns-then-not-starts-rises : goal.returns-then-not-starts-rises
returns-then-not-starts-rises c =
    searched_found _ _ c.loop-i.i _ (ap not c.if-not-starts-rises.true)
    (entry (endpoints_asked c.args.maximum_magnitude) 0 0 c.args.endpoints.now _ c.loop-i.i c.saturating_sub-before.ensures c.loop-i-test.true) c.loop-i-test.true c.loop-i.invariant

pub loop-i-preserved : goal.loop-i-preserved
loop-i-preserved c =
    searched_more _ _ c.loop-i.i _ (ap not c.if-not-starts-rises.false)
    (entry (endpoints_asked c.args.maximum_magnitude) 0 0 c.args.endpoints.now _ c.loop-i.i c.saturating_sub-before.ensures c.loop-i-test.true) c.loop-i-test.true c.loop-i.invariant

pub returns : goal.returns
returns c = searched_all _ _ c.loop-i.i c.loop-i-test.false c.loop-i.invariant
