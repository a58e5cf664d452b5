-- The residues of the blocks so far are summed, and the others are left.
use Rattle.std.proofs.Common.{◌≡◌}
use Rattle.std.specs.Slice.Iter.{chunks_rest, chunks_size}
use Rattle.stats.proofs.Blocks.{Chunked}
use Rattle.stats.proofs.sums.sum_residues.Given as goal

abbrev pub invariant-loop-block : goal.invariant-loop-block
invariant-loop-block l = (chunks_size l.block-iterator ≡ 1024) × Chunked l.modulus l.residues (chunks_rest l.block-iterator) l.totals
