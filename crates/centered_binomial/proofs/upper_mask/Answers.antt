use Rattle.std.proofs.Common.{sym, ◌∙◌, arith}
use Rattle.centered_binomial.proofs.Made.{made-small}
use Rattle.centered_binomial.proofs.upper_mask.Goals as goal

pub overflow_shl-result : goal.overflow_shl-result
overflow_shl-result c = omega (arith, made-small c.args.parameters (sym c.is_made.ensures ∙ c.if-not-is_made.false))
