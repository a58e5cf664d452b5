use Rattle.stats.specs.Sums.{residue_sums}
use Rattle.stats.proofs.Blocks.{upper-bits}
use Rattle.stats.proofs.sums.sums_of.Goals as goal

pub returns : goal.returns
unfolding residue_sums
returns c = rw (c.above_half.ensures, c.size_of-size.ensures, upper-bits c.args.modulus c.requires.0 c.args.residue c.requires.1)
