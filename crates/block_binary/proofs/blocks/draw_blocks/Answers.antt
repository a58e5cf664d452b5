use Rattle.std.proofs.Common.{refl, arith}
use Rattle.distr.proofs.Skipping.{reports_refused, reports_words}
use Rattle.words.proofs.Places.{lent-all}
use Rattle.block_binary.proofs.Filling.{holds_each, turn_start, turn_more, turn_passed, turn_short, turn_end, turn_counts}
use Rattle.block_binary.proofs.blocks.draw_blocks.Goals as goal

pub loop-start-init : goal.loop-start-init
loop-start-init g c =
    let t = g.met.T.Output in
    turn_start _ _ _ _ _ _ _ (holds_each _ _ _ (t.held_each c.args.encoding) (t.natural_held c.args.encoding)) c.requires.sizes.1 refl

pub returns-then-lent-at : goal.returns-then-lent-at
returns-then-lent-at g c = record {
  output_after = rw c.refused.ensures (turn_short c.loop-start.invariant c.loop-start-test.true c.args.words.now c.args.place c.if-lent-at.true
      (lent-all c.args.words.now c.args.place) c.clear.ensures);
  result_value = reports_refused _ (λ z. omega arith) c.refused.ensures;
}

pub loop-start-preserved-then-word-left-le4294967296 : goal.loop-start-preserved-then-word-left-le4294967296
loop-start-preserved-then-word-left-le4294967296 g c =
    turn_more c.loop-start.invariant c.loop-start-test.true c.requires.choices_nonzero.0 (omega arith) c.if-lent-at.false
    c.if-word-left-le4294967296.true c.fill_block.ensures

pub loop-start-preserved : goal.loop-start-preserved
loop-start-preserved g c =
    turn_passed c.loop-start.invariant c.loop-start-test.true c.requires.choices_nonzero.0 (omega arith) c.if-lent-at.false c.if-word-left-le4294967296.false

pub overflow_sub-at : goal.overflow_sub-at
overflow_sub-at g c =
    omega (arith, turn_counts c.loop-start.invariant c.requires.sizes.0 c.loop-start-test.false (lent-all c.args.words.now c.args.place))

pub returns : goal.returns
returns g c =
    let i = c.loop-start.invariant in
    let lent = lent-all c.args.words.now c.args.place in
    record {
      output_after = rw c.succeeded_after.ensures
          (turn_end i c.requires.sizes.0 c.loop-start-test.false c.args.words.now c.args.place c.requires.sizes.2 lent);
      result_value = reports_words c.succeeded_after.ensures (omega (arith, turn_counts i c.requires.sizes.0 c.loop-start-test.false lent));
    }
