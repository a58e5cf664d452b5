use Rattle.std.proofs.Common.{arith}
use Rattle.numbers.proofs.WideStores.{stored_four, stored-rest}
use Rattle.ternary.proofs.ends.fill.Goals as goal

pub loop-i-preserved : goal.loop-i-preserved
loop-i-preserved g c = record {
  passed = omega arith;
  by_four = omega arith;
  stored = stored_four _ _ _ _ c.loop-i.invariant.stored (omega arith) c.loop-i.invariant.passed c.element-first.ensures c.element-second.ensures
      c.element-third.ensures c.element-fourth.ensures;
}

pub returns : goal.returns
returns g c = stored-rest _ _ _ _ c.loop-i.invariant.stored c.loop-i.invariant.passed c.requires c.fill_rest.ensures
