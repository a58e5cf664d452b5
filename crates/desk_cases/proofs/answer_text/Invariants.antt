-- `answer_text` ends: the bytes that are left become fewer.
use Rattle.std.proofs.Common.{◌-◌}
use Rattle.desk_cases.proofs.answer_text.Given as goal

abbrev pub decreases-loop-at : goal.decreases-loop-at
decreases-loop-at g l = l.size - l.at
