use Rattle.std.proofs.Common.{not, ap}
use lib.Ieee.{nan, round, of_bits}
use Rattle.distr.specs.Constants.{literal}
use Rattle.distr.specs.FirstWrong.{heights_asked}
use Rattle.layer_tables.proofs.Searching.{searched_more, searched_found, searched_all, entry}
use Rattle.layer_tables.proofs.first_wrong.first_wrong_height.Goals as goal

pub returns-then-not-is_finite-starts : goal.returns-then-not-is_finite-starts
unfolding round of_bits
returns-then-not-is_finite-starts c =
    searched_found _ _ c.loop-i.i _ (rw c.is_finite.ensures at (ap not c.if-not-is_finite-starts.true))
    (entry heights_asked (literal 0 1) nan c.args.heights.now _ c.loop-i.i c.saturating_sub-before.ensures c.loop-i-test.true) c.loop-i-test.true c.loop-i.invariant

pub loop-i-preserved : goal.loop-i-preserved
unfolding round of_bits
loop-i-preserved c =
    searched_more _ _ c.loop-i.i _ (rw c.is_finite.ensures at (ap not c.if-not-is_finite-starts.false))
    (entry heights_asked (literal 0 1) nan c.args.heights.now _ c.loop-i.i c.saturating_sub-before.ensures c.loop-i-test.true) c.loop-i-test.true c.loop-i.invariant

pub returns : goal.returns
returns c = searched_all _ _ c.loop-i.i c.loop-i-test.false c.loop-i.invariant
