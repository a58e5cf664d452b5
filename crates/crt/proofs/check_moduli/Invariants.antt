-- The moduli so far are passed.
use Rattle.crt.proofs.Moduli.{Passed}
use Rattle.crt.proofs.check_moduli.Given as goal

abbrev pub invariant-loop-modulus : goal.invariant-loop-modulus
invariant-loop-modulus l = Passed l.largest l.moduli l.modulus-index
