-- `read_rest` reads the limits of a line, and then the residues of the text after it.
use mathlib.Core.Path.{sym}
use mathlib.Core.Bool.{true, false}
use native.Mathlib.Omega.{arith}
use borrow.Author.Rules.{rules}
use lib.Seq.{length-take-le}
use Rattle.residue_text.proofs.Scanning.{lined_after}
use Rattle.residue_text.proofs.Inputs.{bad_handed, rest-limits, rest-residues}
use Rattle.residue_text.proofs.read_rest.Statement.{statement}
use Rattle.residue_text.proofs.read_rest.Tie as tie

slice-aggregate-read-numbers : tie.Need-slice_bounds-read_numbers-end
slice-aggregate-read-numbers c = sym (length-take-le _ _ c.first_line-line.ensures.inside)

returns : tie.Need-returns-then-limits_read
returns c =
    let a = c.args in
    bad_handed c.bad.result c.read_numbers-limits_read.new.numbers a.residues.now c.bad.ensures
    (rest-limits a.text.now a.limits.now a.residues.now _ c.first_line-line.ensures.line a.modulus c.read_numbers-limits_read.result
    c.read_numbers-limits_read.new.numbers c.read_numbers-limits_read.ensures c.if-limits_read.true)

returns-2 : tie.Need-returns-then-residues_read
returns-2 c =
    let a = c.args in
    bad_handed c.bad-then-residues_read.result c.read_numbers-limits_read.new.numbers c.read_numbers-residues_read.new.numbers c.bad-then-residues_read.ensures
    (rest-residues a.text.now a.limits.now a.residues.now _ c.first_line-line.ensures.line a.modulus c.read_numbers-limits_read.result
    c.read_numbers-limits_read.new.numbers c.read_numbers-limits_read.ensures _ (lined_after c.first_line-line.ensures) c.read_numbers-residues_read.result
    c.read_numbers-residues_read.new.numbers c.read_numbers-residues_read.ensures c.if-limits_read.false true c.if-residues_read.true)

returns-3 : tie.Need-returns
returns-3 c =
    let a = c.args in (
      rest-residues a.text.now a.limits.now a.residues.now _ c.first_line-line.ensures.line a.modulus c.read_numbers-limits_read.result
          c.read_numbers-limits_read.new.numbers c.read_numbers-limits_read.ensures _ (lined_after c.first_line-line.ensures) c.read_numbers-residues_read.result
          c.read_numbers-residues_read.new.numbers c.read_numbers-residues_read.ensures c.if-limits_read.false false c.if-residues_read.false,
      (omega arith, omega arith),
    )

pub read_rest_spec : {M : Type 1} → statement M
read_rest_spec =
    tie.close
    (tie.spec (λ c κs. search rules) slice-aggregate-read-numbers (λ c κs. search rules) (λ c. search rules) (λ c κs. search rules)
    (λ c. search rules) returns (λ c. search rules) (λ c. search rules) (λ c. search rules) (λ c. search rules) (λ c κs. search rules)
    (λ c. search rules) (λ c. search rules) (λ c κs. search rules) (λ c. search rules) (λ c. search rules) returns-2 (λ c. search rules)
    (λ c. search rules) returns-3)
