-- The first c elements of the row are made.
use Rattle.std.proofs.Common.{◌≤◌, length}
use Rattle.crt.specs.Rows.{from_native}
use Rattle.crt.proofs.RowMaking.{Made}
use Rattle.crt.proofs.make_row.Given as goal

abbrev pub invariant-loop-c : goal.invariant-loop-c
invariant-loop-c l =
    (before : l.at ≤ l.last) × (inside : l.last ≤ length l.fn.output) × Made (from_native l.modulus) l.fn.output l.at l.last before inside l.c l.output
