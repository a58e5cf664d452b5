use Rattle.std.proofs.Common.{rules}
use Rattle.poly_cbd.proofs.Numbers.{accepted_as, is_three, refused, drawn}
use Rattle.poly_cbd.proofs.sample_poly_cbd.Goals as goal

pub returns-in_err-check_cbd : goal.returns-in_err-check_cbd
returns-in_err-check_cbd c = let e = refused c.args.eta c.args.bytes.now c.args.output.now _ c.in_err-check_cbd.ensures in search rules

pub fill-requires : goal.fill-requires
fill-requires c = accepted_as _ 2 _ _ c.in_ok-check_cbd.ensures c.if-eta-eq2.true

pub fill-requires-else-eta-eq2 : goal.fill-requires-else-eta-eq2
fill-requires-else-eta-eq2 c = accepted_as _ 3 _ _ c.in_ok-check_cbd.ensures (is_three _ _ _ c.in_ok-check_cbd.ensures c.if-eta-eq2.false)

pub returns-then-eta-eq2 : goal.returns-then-eta-eq2
returns-then-eta-eq2 c = drawn _ 2 _ _ _ c.in_ok-check_cbd.ensures c.if-eta-eq2.true c.fill.ensures

pub returns-else-eta-eq2 : goal.returns-else-eta-eq2
returns-else-eta-eq2 c =
    drawn _ 3 _ _ _ c.in_ok-check_cbd.ensures (is_three _ _ _ c.in_ok-check_cbd.ensures c.if-eta-eq2.false) c.fill-else-eta-eq2.ensures
