use Rattle.std.proofs.Common.{sym, ◌∙◌, arith}
use Rattle.crt.proofs.Numbers.{crt_shaped, crt_shapeless}
use Rattle.crt.proofs.check_crt.Goals as goal

pub returns-then-has_shape : goal.returns-then-has_shape
returns-then-has_shape c =
    let a = c.args in
    crt_shaped a.words a.place a.n a.coefficient_count a.largest a.moduli.now (omega arith) (sym c.has_shape.ensures ∙ c.if-has_shape.true)
    c.check_moduli.ensures c.check_draw.ensures

pub returns : goal.returns
returns c =
    let a = c.args in
    crt_shapeless a.words a.place a.n a.coefficient_count a.largest a.moduli.now (sym c.has_shape.ensures ∙ c.if-has_shape.false) c.check_draw-2.ensures
