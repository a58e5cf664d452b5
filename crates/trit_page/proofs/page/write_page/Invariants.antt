-- `page::write_page` writes the lines front to back: after so many turns those of the bytes below stand there.
use Rattle.std.proofs.Common.{◌≡◌}
use Rattle.trit_page.proofs.Lines.{printed}
use Rattle.trit_page.proofs.page.write_page.Given as goal

abbrev pub invariant-loop-byte : goal.invariant-loop-byte
invariant-loop-byte l = l.page ≡ printed l.byte l.fn.page
