use Rattle.std.proofs.Common.{◌^◌, refl, sym, ◌∙◌, zero-mul, eqb-true}
use Rattle.crt.proofs.Shape.{next_row}
use Rattle.crt.proofs.Spreading.{spread_none, spread_more, spread-all, spread-other, spread_no_moduli}
use Rattle.crt.proofs.spread_rows.Goals as goal

pub returns-then-rows-eq0 : goal.returns-then-rows-eq0
returns-then-rows-eq0 c = spread_no_moduli (2 ^ 63) c.args.output.now c.args.coefficient_count c.args.moduli.now c.if-rows-eq0.true

pub loop-modulus-init : goal.loop-modulus-init
loop-modulus-init c = (refl, sym (zero-mul _), eqb-true _ _ (sym c.has_shape.ensures ∙ c.if-has_shape.true), spread_none _ _ _ _ _)

pub loop-modulus-preserved : goal.loop-modulus-preserved
loop-modulus-preserved c =
    let i = c.loop-modulus.invariant in (
      c.make_row.auto.output ∙ i.0,
      next_row _ c.loop-modulus.modulus-index i.1,
      i.2,
      spread_more _ _ _ _ _ i.3 c.loop-modulus-test.true i.0 i.1 c.make_row.ensures,
    )

pub returns-after-loop-modulus : goal.returns-after-loop-modulus
returns-after-loop-modulus c = spread-all _ _ _ _ _ c.loop-modulus.invariant.3 c.loop-modulus-test.false

pub returns-else-has_shape : goal.returns-else-has_shape
returns-else-has_shape c =
    spread-other (2 ^ 63) c.args.output.now c.args.coefficient_count c.args.moduli.now (sym c.has_shape.ensures ∙ c.if-has_shape.false)
