use Rattle.crt.proofs.RowPart.{range_inside}
use Rattle.crt.proofs.crt_row.Goals as goal

pub slice_bounds-result-end : goal.slice_bounds-result-end
slice_bounds-result-end c = range_inside _ _ _ _ c.crt_row_range-row.ensures
