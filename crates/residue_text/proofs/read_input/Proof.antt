-- `read_input` reads the first line, and where it is a modulus alone the text after it.
use mathlib.Core.Path.{sym, ◌∙◌}
use mathlib.Core.Bool.{true, false}
use borrow.Author.Rules.{rules}
use lib.Seq.{length-take-le}
use Rattle.residue_text.proofs.Scanning.{lined_after}
use Rattle.residue_text.proofs.Inputs.{bad_handed, input_none, input-some}
use Rattle.residue_text.proofs.read_input.Statement.{statement}
use Rattle.residue_text.proofs.read_input.Tie as tie

slice-aggregate-read-modulus : tie.Need-slice_bounds-read_modulus-end
slice-aggregate-read-modulus c = sym (length-take-le _ _ c.first_line-line.ensures.inside)

returns : tie.Need-returns-then-modulus-eq0
returns c =
    let a = c.args in
    bad_handed c.bad.result a.limits.now a.residues.now c.bad.ensures
    (input_none a.text.now a.limits.now a.residues.now _ c.first_line-line.ensures.line _ _ c.read_modulus-first.ensures.0
    c.read_modulus-first.ensures.1 c.if-modulus-eq0.true)

returns-2 : tie.Need-returns-then-first
returns-2 c =
    let a = c.args in
    bad_handed c.bad-then-first.result a.limits.now a.residues.now c.bad-then-first.ensures
    (input-some a.text.now a.limits.now a.residues.now _ c.first_line-line.ensures.line _ _ c.read_modulus-first.ensures.0
    c.read_modulus-first.ensures.1 c.if-modulus-eq0.false true c.if-first.true)

returns-3 : tie.Need-returns
returns-3 c =
    let a = c.args in (
      c.read_rest.ensures.0
          ∙ rw (lined_after c.first_line-line.ensures)
          (input-some a.text.now a.limits.now a.residues.now _ c.first_line-line.ensures.line _ _ c.read_modulus-first.ensures.0
          c.read_modulus-first.ensures.1 c.if-modulus-eq0.false false c.if-first.false),
      c.read_rest.ensures.1,
    )

pub read_input_spec : {M : Type 1} → statement M
read_input_spec =
    tie.close
    (tie.spec (λ c κs. search rules) slice-aggregate-read-modulus (λ c κs. search rules) (λ c κs. search rules) returns (λ c κs. search rules)
    returns-2 (λ c. search rules) (λ c. search rules) (λ c. search rules) (λ c κs. search rules) (λ c. search rules) (λ c. search rules) returns-3)
