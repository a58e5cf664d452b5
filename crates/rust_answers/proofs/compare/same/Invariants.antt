-- `compare::same` compares number by number: what was found, and what is left of both lists, are the whole.
use Rattle.std.proofs.Common.{◌≡◌, ◌&&◌, length, drop}
use Rattle.rust_answers.specs.Answer.{same}
use Rattle.rust_answers.proofs.compare.same.Given as goal

abbrev pub invariant-loop-i : goal.invariant-loop-i
invariant-loop-i l = (length l.b ≡ length l.a) × ((l.equal && same (drop l.i l.a) (drop l.i l.b)) ≡ same l.a l.b)
