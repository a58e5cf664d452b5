use Rattle.desk.specs.Desk.{desk_number}
use Rattle.desk.proofs.check_desk.Goals as goal

pub returns-then-output_bytes-word_bytes : goal.returns-then-output_bytes-word_bytes
unfolding desk_number
returns-then-output_bytes-word_bytes c = rw c.if-output_bytes-word_bytes.true

pub returns : goal.returns
unfolding desk_number
returns c = rw c.if-output_bytes-word_bytes.false
