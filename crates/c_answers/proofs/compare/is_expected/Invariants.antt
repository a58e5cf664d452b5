-- `compare::is_expected` goes over the output: what was found so far is the test of every element before i.
use Rattle.std.proofs.Common.{◌≡◌, nat_eq, slice_index}
use Rattle.c_answers.specs.Answer.{expected as expected_at, all_below}
use Rattle.c_answers.proofs.compare.is_expected.Given as goal

abbrev pub invariant-loop-i : goal.invariant-loop-i
invariant-loop-i l = l.equal ≡ all_below l.i (λ k. nat_eq (slice_index l.output k) (expected_at l.coefficients l.number k))
