-- The line of the next byte is put into the ten characters after the lines of those below, and after the last the lines are the whole page.
use Rattle.std.proofs.Common.{◌≡◌, ℕ, sym, ap, ◌∙◌, arith}
use Rattle.trit_page.proofs.Lines.{printed, printed_none, printed_more, printed-all}
use Rattle.trit_page.proofs.page.write_page.Goals as goal

pub loop-byte-init : goal.loop-byte-init
loop-byte-init c = sym (printed_none c.args.page.now)

pub loop-byte-preserved : goal.loop-byte-preserved
loop-byte-preserved c =
    rw c.loop-byte.invariant (printed_more c.loop-byte.byte c.args.page.now c.write_line.new.line c.write_line.ensures)

pub returns : goal.returns
returns c =
    let end : c.loop-byte.byte ≡ 243 = omega arith in
    c.loop-byte.invariant ∙ ap (λ (k : ℕ). printed k c.args.page.now) end ∙ printed-all c.args.page.now (omega arith)
