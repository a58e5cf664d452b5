-- `residues::residue` is the residue's value: a coefficient as it is, or the modulus less its magnitude.
use mathlib.Core.Path.{ap, ◌∙◌}
use native.Mathlib.Omega.{arith}
use lib.IntN.{pos}
use mir.Syntax.{w64}
use mir.Facts.{to_z_pos}
use borrow.Author.Rules.{rules}
use Rattle.sheet_request.proofs.Encoding.{plain, minus}
use Rattle.sheet_request.proofs.residues.residue.Statement.{statement}
use Rattle.sheet_request.proofs.residues.residue.Tie as tie

returns : tie.Need-returns-then-c-ge0
returns c = let at = c.before in plain at.args.modulus at.args.c at.ranges.c c.if-c-ge0.true

returns-2 : tie.Need-returns-then-q-size
returns-2 c =
    let at = c.before.before.before in
    let less = minus at.args.modulus at.args.c at.ranges.c c.before.before.if-c-ge0.false c.before.magnitude-size.ensures in
    ap pos (omega arith)

returns-3 : tie.Need-returns
returns-3 c =
    let at = c.before.before.before in
    to_z_pos w64 (omega arith)
    ∙ ap pos (minus at.args.modulus at.args.c at.ranges.c c.before.before.if-c-ge0.false c.before.magnitude-size.ensures)

pub residue_spec : {M : Type 1} → statement M
residue_spec = tie.close (tie.spec returns (λ c κs. search rules) returns-2 (λ c. search rules) returns-3)
