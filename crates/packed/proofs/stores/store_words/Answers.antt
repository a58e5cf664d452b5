use Rattle.std.proofs.Common.{◌≡◌, length, zero-le, arith}
use Rattle.packed.proofs.TritLoop.{trit_none, trit_whole, words-stored}
use Rattle.packed.proofs.stores.store_words.Goals as goal

pub loop-next-init : goal.loop-next-init
loop-next-init g c = trit_none _ _ _ _ _ _ zero-le c.requires

pub returns-then-last-at-clause-at_in_bounds : goal.returns-then-last-at-clause-at_in_bounds
returns-then-last-at-clause-at_in_bounds g c = (words-stored _ _ _ _ _ c.loop-next.invariant).0

pub returns-then-last-at-clause-place_value : goal.returns-then-last-at-clause-place_value
returns-then-last-at-clause-place_value g c = (words-stored _ _ _ _ _ c.loop-next.invariant).1

pub loop-next-preserved : goal.loop-next-preserved
loop-next-preserved g c =
    trit_whole _ _ _ _ _ _ (omega arith) (omega arith) c.store_word-at.auto.output c.loop-next.invariant c.store_word-at.ensures

pub returns-clause-at_in_bounds : goal.returns-clause-at_in_bounds
returns-clause-at_in_bounds g c =
    let end : c.loop-next.next ≡ length c.args.words.now = omega arith in
    (words-stored _ _ _ _ _ (rw end at c.loop-next.invariant)).0

pub returns-clause-place_value : goal.returns-clause-place_value
returns-clause-place_value g c =
    let end : c.loop-next.next ≡ length c.args.words.now = omega arith in
    (words-stored _ _ _ _ _ (rw end at c.loop-next.invariant)).1
