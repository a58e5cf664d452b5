use Rattle.std.proofs.Common.{refl, arith}
use Rattle.std.proofs.Math.Nat.{le_trans, mul-le-mul_right}
use Rattle.distr.proofs.Refusals.{refuses}
use Rattle.numbers.proofs.Refusing.{number_passed}
use Rattle.packed.proofs.Deciding.{table-refused, table_lacking, table_filled}
use Rattle.packed.proofs.draws.draw.Goals as goal

pub returns-in-Err-clause-draws_by_table : goal.returns-in-Err-clause-draws_by_table
returns-in-Err-clause-draws_by_table g c =
    rw c.refused.ensures (table-refused _ _ _ _ _ _ _ _ c.in-Err.ensures (refuses _))

pub returns-then-count-place-clause-draws_by_table : goal.returns-then-count-place-clause-draws_by_table
returns-then-count-place-clause-draws_by_table g c =
    rw c.refused-then-count-place.ensures
    (table_lacking _ _ _ _ _ _ _ _ c.in_default.ensures refl (omega arith) c.clear.ensures)

pub fill_words-requires : goal.fill_words-requires
fill_words-requires g c = (
  (number_passed _ _ _ _ c.in_default.ensures refl).0,
  le_trans c.requires.1 (mul-le-mul_right _ (omega arith)),
  c.requires.0,
)

pub returns-clause-draws_by_table : goal.returns-clause-draws_by_table
returns-clause-draws_by_table g c =
    rw c.succeeded.ensures
    (table_filled _ _ _ _ _ _ _ _ c.in_default.ensures refl c.requires.0.positive (omega arith) c.requires.1 c.fill_words.ensures)
