use Rattle.std.proofs.Common.{sym, arith}
use borrow.Author.Tests.{ltb-false}
use Rattle.packed.proofs.TritLoop.{trit_none, trit_word, trit_byte, trit_short, trit_done, looked_done}
use Rattle.packed.proofs.stores.fill_bytes.Goals as goal

pub loop-at-init : goal.loop-at-init
loop-at-init g c = trit_none _ _ _ _ _ _ c.requires.0 c.requires.1

pub returns-in_err-rest-clause-place_in_bounds : goal.returns-in_err-rest-clause-place_in_bounds
returns-in_err-rest-clause-place_in_bounds g c =
    let past = ltb-false _ _ (sym c.in_err-rest.ensures.lookup.0) in
    rw c.from_residual.ensures (tt, trit_short _ _ _ _ _ _ c.loop-at-test.true c.if-left-eq0.true (omega arith) c.loop-at.invariant)

pub loop-at-preserved-then-left-eq0 : goal.loop-at-preserved-then-left-eq0
loop-at-preserved-then-left-eq0 g c =
    let there = c.in_ok-rest.ensures.lookup.3 in
    rw (there.1 0) (trit_word _ _ _ _ _ _ c.loop-at-test.true c.if-left-eq0.true (λ e. omega arith) c.loop-at.invariant)

pub loop-at-preserved : goal.loop-at-preserved
loop-at-preserved g c =
    trit_byte _ _ _ _ _ _ c.loop-at-test.true c.if-left-eq0.false c.store_fitting-at.auto.output c.loop-at.invariant c.store_fitting-at.ensures

pub returns-clause-place_in_bounds : goal.returns-clause-place_in_bounds
returns-clause-place_in_bounds g c =
    (c.loop-at.invariant.found, trit_done _ _ _ _ _ _ c.loop-at-test.false c.loop-at.invariant)

pub returns-clause-looked : goal.returns-clause-looked
returns-clause-looked g c = looked_done _ _ _ _ _ _ c.loop-at-test.false c.loop-at.invariant
