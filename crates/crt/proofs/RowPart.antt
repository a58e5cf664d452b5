-- Where the row of one modulus lies, and what stands there.
use Rattle.std.proofs.Common.{◌≡◌, ℕ, ◌+◌, ◌*◌, ◌≤◌, Bool, true, false, cond, eqb, ltb, refl, arith, ltb-true, eqb-true}
use Rattle.distr.specs.Encoding.{has_row}
use Rattle.distr.proofs.Reading.{both_true}
use Rattle.crt.specs.declared.RowRange.{RowRange}
use Rattle.crt.specs.Parts.{row_range}
use Rattle.crt.proofs.Shape.{row_inside}

-- a row ends within the output
row_room : (n count moduli i : ℕ) → has_row n count moduli i ≡ true → i * count + count ≤ n
row_room n count moduli i e =
    let tests = both_true (eqb n (count * moduli)) (ltb i moduli) e in
    row_inside n count moduli i (eqb-true n (count * moduli) tests.0) (ltb-true i moduli tests.1)

-- a row, or the empty part, lies within the output
module _ (n count moduli i : ℕ) {range : RowRange} (found : range ≡ row_range n count moduli i) where
  pub range_inside : range.end ≤ n
  range_inside = rw found (go (has_row n count moduli i) refl)
    where
      go : (b : Bool) → has_row n count moduli i ≡ b → cond b (i * count + count) 0 ≤ n
      go true e = row_room n count moduli i e
      go false e = omega arith
