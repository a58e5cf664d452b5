-- The end of the line, and the place past its newline where there is one.
use Rattle.residue_text.proofs.Scanning.{lined_newline, lined_none}
use Rattle.residue_text.proofs.scan.first_line.Goals as goal

pub returns-then-end-text : goal.returns-then-end-text
returns-then-end-text c = lined_newline c.args.text.now c.scan-end.result c.scan-end.ensures.value c.if-end-text.true

pub returns : goal.returns
returns c = lined_none c.args.text.now c.scan-end.result c.scan-end.ensures.value c.scan-end.ensures.upper_bound c.if-end-text.false
