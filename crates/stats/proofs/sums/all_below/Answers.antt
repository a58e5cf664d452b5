use Rattle.std.proofs.Common.{refl}
use Rattle.stats.specs.Centered.{all_below}
use Rattle.stats.proofs.Below.{below_more}
use Rattle.stats.proofs.sums.all_below.Goals as goal

pub loop-residue-init : goal.loop-residue-init
unfolding all_below
loop-residue-init c = refl

pub loop-residue-preserved : goal.loop-residue-preserved
loop-residue-preserved c = rw c.loop-residue.invariant (below_more c.args.modulus c.args.residues.now c.loop-residue.residue-index c.loop-residue-test.true)
