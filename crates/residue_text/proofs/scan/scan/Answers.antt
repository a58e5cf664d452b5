-- The first byte of the kind ends the search.
use Rattle.std.proofs.Common.{sym, ◌∙◌, add-one, arith}
use Rattle.residue_text.specs.Tokens.{sought}
use Rattle.residue_text.proofs.Scanning.{before_here, before_later, before-end}
use Rattle.residue_text.proofs.scan.scan.Goals as goal

pub returns-then-is_sought-clause-value : goal.returns-then-is_sought-clause-value
returns-then-is_sought-clause-value c =
    let found = sym c.is_sought.ensures ∙ c.if-is_sought.true in
    omega (arith, c.loop-i.invariant, before_here (sought c.args.what) c.args.text.now c.loop-i.i c.loop-i-test.true found)

pub loop-i-preserved : goal.loop-i-preserved
loop-i-preserved c =
    let other = sym c.is_sought.ensures ∙ c.if-is_sought.false in
    rw (add-one c.loop-i.i) (omega (arith, c.loop-i.invariant, before_later (sought c.args.what) c.args.text.now c.loop-i.i c.loop-i-test.true other))

pub returns-clause-value : goal.returns-clause-value
returns-clause-value c =
    omega (arith, c.loop-i.invariant, before-end (sought c.args.what) c.args.text.now c.loop-i.i c.loop-i-test.false)
