-- `below::one_below`: what the bound leaves has its top bit set where the word is below the end.
use native.Mathlib.Omega.{arith}
use borrow.Author.Rules.{rules}
use Rattle.output.proofs.Naturals.{bit-most}
use Rattle.binary.proofs.Halves.{half-fits, half-within, half_tells}
use Rattle.binary.proofs.below.one_below.Statement.{statement}
use Rattle.binary.proofs.below.one_below.Tie as tie

add_half : tie.Need-overflow_add-half
add_half c = record { fits = half-fits c.args.word (search rules) c.args.odd }

add-bound-2 : tie.Need-overflow_add-bound-2
add-bound-2 c = omega (arith, bit-most c.args.odd)

sub-result : tie.Need-overflow_sub-result
sub-result c = half-within c.args.word (search rules) c.args.below c.args.odd

returns : tie.Need-returns
returns c = half_tells c.args.word (search rules) c.args.below c.args.odd (search rules)

pub one_below_spec : {M : Type 1} → statement M
one_below_spec = tie.close (tie.spec (λ c. search rules) add_half (λ c. search rules) add-bound-2 sub-result returns)
