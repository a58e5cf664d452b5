-- Those of the residues so far are counted.
use Rattle.stats.proofs.Within.{Counted}
use Rattle.stats.proofs.counting.count_within.Given as goal

abbrev pub invariant-loop-residue : goal.invariant-loop-residue
invariant-loop-residue l = Counted l.residues l.modulus l.limit l.residue-index l.count
