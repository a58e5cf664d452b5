use Rattle.std.proofs.Common.{sym}
use Rattle.distr.proofs.Refusals.{refuses-eqb}
use Rattle.desk.specs.Desk.{desk_draw}
use Rattle.desk.proofs.desk_draw.Goals as goal

pub returns-in-Err : goal.returns-in-Err
unfolding desk_draw
returns-in-Err c = rw (c.number.ensures, ← c.in-Err.ensures, refuses-eqb c.in-Err.why)

pub draw_bytes-answer-requires : goal.draw_bytes-answer-requires
draw_bytes-answer-requires c = sym c.in_default.ensures

pub returns : goal.returns
unfolding desk_draw
returns c = rw (← c.in_default.ensures) c.draw_bytes-answer.ensures
