use Rattle.std.proofs.Common.{sym, ◌∙◌}
use Rattle.distr.specs.Numbers.{first_of}
use Rattle.draw_laws.proofs.Joining.{first_alone}
use Rattle.prepared_draws.proofs.encoded.check_residues.Goals as goal

pub returns-then-is_binomial-modulus : goal.returns-then-is_binomial-modulus
unfolding first_of
returns-then-is_binomial-modulus c = rw (← c.in_ok-check_length.ensures, ← c.is_binomial.ensures, c.if-is_binomial-modulus.true)

pub returns : goal.returns
unfolding first_of
returns c =
    rw (← c.in_ok-check_length.ensures, ← c.is_binomial.ensures, c.if-is_binomial-modulus.false, ← c.maximum_magnitude.ensures)
    (c.check_modulus.ensures ∙ sym (first_alone _))
