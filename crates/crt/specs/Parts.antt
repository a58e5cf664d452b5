-- A part of an output that is handed back: what stands in it, and where it lies.
use Rattle.std.specs.Prelude.{◌≡◌, ℕ, ◌+◌, ◌*◌, cond, List, length}
use Rattle.std.specs.Borrow.{Bor}
use Rattle.distr.specs.Encoding.{has_row, row_start, row}
use Rattle.crt.specs.declared.RowRange.{RowRange}

-- The part of an output that starts at an index and holds these elements: it lies in the output's memory, 8 bytes an element.
pub record IsPart (output : Bor (List ℕ)) (start : ℕ) (elements : List ℕ) (part : Bor (List ℕ)) : Type 0 where
  pub contents : part.now ≡ elements
  pub block : part.ref_ptr.0 ≡ output.ref_ptr.0
  pub offset : part.ref_ptr.1 ≡ output.ref_ptr.1 + 8 * start

-- "The row of one modulus is handed back as that part of the output; a row number out of range, or a wrong shape, gives the empty part at
-- its start."
abbrev pub IsRow : Bor (List ℕ) → ℕ → ℕ → ℕ → Bor (List ℕ) → Type 0
IsRow output coefficient_count moduli i part =
    IsPart output (row_start (length output.now) coefficient_count moduli i) (row output.now coefficient_count moduli i) part

-- The index after the row's last element.
abbrev pub row_end : ℕ → ℕ → ℕ → ℕ → ℕ
row_end n coefficient_count moduli i = cond (has_row n coefficient_count moduli i) (i * coefficient_count + coefficient_count) 0

-- Where the row of one modulus starts and ends in an output of n elements.
abbrev pub row_range : ℕ → ℕ → ℕ → ℕ → RowRange
row_range n coefficient_count moduli i = record { start = row_start n coefficient_count moduli i; end = row_end n coefficient_count moduli i }
