-- `compare::digest` goes over the output: the digest so far, over what is left, is the whole.
use Rattle.std.proofs.Common.{◌≡◌, drop}
use Rattle.rust_answers.specs.Answer.{digest as digest_of}
use Rattle.rust_answers.proofs.compare.digest.Given as goal

abbrev pub invariant-loop-element : goal.invariant-loop-element
invariant-loop-element l = digest_of l.offset l.digest (drop l.element-index l.output) ≡ digest_of l.offset 1 l.output
