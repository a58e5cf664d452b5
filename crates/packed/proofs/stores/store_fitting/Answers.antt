use Rattle.std.proofs.Common.{replicate, arith}
use Rattle.packed.proofs.TritLoop.{fitted_whole, fitted_front, fitted_none}
use Rattle.packed.proofs.stores.store_fitting.Goals as goal

pub returns-then-output-at-ge5 : goal.returns-then-output-at-ge5
returns-then-output-at-ge5 g c = fitted_whole _ _ (omega arith) c.store_byte.ensures

pub returns-then-accepted : goal.returns-then-accepted
returns-then-accepted g c =
    fitted_front _ _ (replicate 5 c.natural-whole.result) c.requires.0 (omega arith) (omega arith) c.store_trits.ensures.1 c.store_front.ensures

pub returns : goal.returns
returns g c = fitted_none _ _ c.args.output.now c.requires.0 (omega arith)
