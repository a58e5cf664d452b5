use Rattle.std.proofs.Common.{arith}
use Rattle.stats.proofs.Below.{below_at}
use Rattle.stats.proofs.Centering.{within_all}
use Rattle.stats.proofs.Within.{counted_none, counted_more, counted-all}
use Rattle.stats.proofs.counting.count_within.Goals as goal

pub returns-then-modulus-limit : goal.returns-then-modulus-limit
returns-then-modulus-limit c = within_all c.args.modulus c.args.limit c.args.residues.now c.if-modulus-limit.true c.requires.2

pub loop-residue-init : goal.loop-residue-init
loop-residue-init c = counted_none _ _ _

-- the residue that is looked at is below the modulus
pub at_most-requires : goal.at_most-requires
at_most-requires c =
    (omega (arith, below_at c.args.modulus c.args.residues.now c.loop-residue.residue-index c.requires.2 c.loop-residue-test.true), omega arith)

pub at_most-requires-in-loop-residue : goal.at_most-requires-in-loop-residue
at_most-requires-in-loop-residue c =
    (omega arith, omega (arith, below_at c.args.modulus c.args.residues.now c.loop-residue.residue-index c.requires.2 c.loop-residue-test.true))

pub loop-residue-preserved : goal.loop-residue-preserved
loop-residue-preserved c =
    counted_more c.args.residues.now c.args.modulus c.args.limit c.requires.2 (omega arith) c.loop-residue.invariant c.loop-residue-test.true
    c.at_most.ensures c.at_most-in-loop-residue.ensures

pub returns : goal.returns
returns c = counted-all c.args.residues.now c.args.modulus c.args.limit c.loop-residue.invariant c.loop-residue-test.false
