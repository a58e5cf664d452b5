-- The residues so far are judged.
use Rattle.std.proofs.Common.{◌≡◌, take}
use Rattle.stats.specs.Centered.{all_below}
use Rattle.stats.proofs.sums.all_below.Given as goal

abbrev pub invariant-loop-residue : goal.invariant-loop-residue
invariant-loop-residue l = l.ok ≡ all_below l.modulus (take l.residue-index l.residues)
