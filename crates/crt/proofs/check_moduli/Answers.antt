use Rattle.std.proofs.Common.{sym}
use Rattle.crt.proofs.Moduli.{passed-zero, passed-small, passed_more, passed-all}
use Rattle.crt.proofs.check_moduli.Goals as goal

pub returns-then-modulus-eq0 : goal.returns-then-modulus-eq0
returns-then-modulus-eq0 c = sym (passed-zero _ _ c.loop-modulus.invariant c.loop-modulus-test.true c.if-modulus-eq0.true)

pub returns-then-modulus-largest : goal.returns-then-modulus-largest
returns-then-modulus-largest c =
    sym (passed-small _ _ c.loop-modulus.invariant c.loop-modulus-test.true c.if-modulus-eq0.false c.if-modulus-largest.true)

pub loop-modulus-preserved : goal.loop-modulus-preserved
loop-modulus-preserved c = passed_more _ _ c.loop-modulus.invariant c.loop-modulus-test.true c.if-modulus-eq0.false c.if-modulus-largest.false

pub returns : goal.returns
returns c = sym (passed-all _ _ c.loop-modulus.invariant c.loop-modulus-test.false)
