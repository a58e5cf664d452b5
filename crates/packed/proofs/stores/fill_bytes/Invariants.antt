-- What the rule gives from the bytes and words left stays the same from turn to turn; each turn reads a word or takes a byte.
use Rattle.std.proofs.Common.{◌+◌, ◌-◌, ◌*◌, length}
use Rattle.packed.proofs.TritLoop.{TritLoop}
use Rattle.packed.proofs.stores.fill_bytes.Given as goal

abbrev pub invariant-loop-at : goal.invariant-loop-at
invariant-loop-at g l = TritLoop (g.T.Output.natural 0) l.tables.pairs.now l.words l.fn.output l.from l.place l.output l.at l.next l.rest l.left

abbrev pub decreases-loop-at : goal.decreases-loop-at
decreases-loop-at g l = 5 * (length l.words - l.next) + l.left
