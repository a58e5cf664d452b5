-- The residues so far are summed.
use Rattle.stats.proofs.Blocks.{Summed}
use Rattle.stats.proofs.sums.block_sums.Given as goal

abbrev pub invariant-loop-residue : goal.invariant-loop-residue
invariant-loop-residue l =
    Summed l.modulus l.block l.residue-index
    (record { residues = l.residues; negatives = l.negatives; upper = l.upper; cross = l.cross; lower = l.lower })
