-- `mark` writes inside the row, which lies within the output.
use Rattle.std.proofs.Common.{length, length-set, arith}
use Rattle.crt.proofs.RowPart.{range_inside}
use Rattle.cases.proofs.rows.mark.Goals as goal

pub offset_bounds-output-last : goal.offset_bounds-output-last
offset_bounds-output-last c =
    omega (arith, range_inside (length c.args.output.now) c.args.coefficient_count c.args.moduli_count c.args.i c.crt_row_range-row.ensures)

pub bounds-output-last : goal.bounds-output-last
bounds-output-last c =
    omega (arith, range_inside (length c.args.output.now) c.args.coefficient_count c.args.moduli_count c.args.i c.crt_row_range-row.ensures)

pub bounds-output-start : goal.bounds-output-start
bounds-output-start c =
    simp length-set
    (omega (arith, range_inside (length c.args.output.now) c.args.coefficient_count c.args.moduli_count c.args.i c.crt_row_range-row.ensures))
