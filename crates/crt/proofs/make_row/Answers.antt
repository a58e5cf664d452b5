use Rattle.crt.proofs.RowMaking.{made_more}
use Rattle.crt.proofs.make_row.Goals as goal

pub loop-c-preserved : goal.loop-c-preserved
loop-c-preserved c =
    let i = c.loop-c.invariant in
    (i.0, i.1, made_more _ _ _ _ _ _ 0 _ c.loop-c-test.true i.2 c.from_native.ensures)
