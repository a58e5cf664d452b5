-- `compare::expected` is the stored coefficient, or what the output held.
use Rattle.std.proofs.Common.{eq-eqb, ne_eqb}
use Rattle.c_answers.specs.Answer.{expected as expected_at}
use Rattle.c_answers.proofs.compare.expected.Goals as goal

pub returns-then-number-eq0 : goal.returns-then-number-eq0
unfolding expected_at
returns-then-number-eq0 c = rw (eq-eqb _ _ c.if-number-eq0.true) c.value_at.ensures

pub returns-else-number-eq0 : goal.returns-else-number-eq0
unfolding expected_at
returns-else-number-eq0 c = rw (ne_eqb _ _ c.if-number-eq0.false)
