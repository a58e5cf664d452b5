use Rattle.std.proofs.Common.{arith}
use Rattle.stats.proofs.Below.{below_at}
use Rattle.stats.proofs.Blocks.{Small, summed_none, summed_more, summed_small, residue_small}
use Rattle.stats.proofs.sums.block_sums.Goals as goal
use Rattle.stats.proofs.sums.block_sums.Goals.{After-sums_of-one}

pub loop-residue-init : goal.loop-residue-init
loop-residue-init c = summed_none _ _

pub sums_of-one-requires : goal.sums_of-one-requires
sums_of-one-requires c =
    (c.requires.1, below_at c.args.modulus c.args.block.now c.loop-residue.residue-index c.requires.2 c.loop-residue-test.true)

-- the sums so far and what the residue adds are small
small : (c : After-sums_of-one) → let loop = c.loop-residue in
    Small loop.residue-index (record { residues = loop.residues; negatives = loop.negatives; upper = loop.upper; cross = loop.cross; lower = loop.lower })
    × Small 1 c.sums_of-one.result
small c =
    let a = c.args in (
      summed_small a.modulus a.block.now c.requires.1 c.requires.2 (omega arith) c.loop-residue.invariant,
      rw c.sums_of-one.ensures
          (residue_small a.modulus c.requires.1 _ (below_at a.modulus a.block.now c.loop-residue.residue-index c.requires.2 c.loop-residue-test.true)),
    )

pub overflow_add-residues : goal.overflow_add-residues
overflow_add-residues c = omega (arith, small (goal.at.overflow_add-residues c).After-sums_of-one)

pub overflow_add-negatives : goal.overflow_add-negatives
overflow_add-negatives c = omega (arith, small (goal.at.overflow_add-negatives c).After-sums_of-one)

pub overflow_add-upper : goal.overflow_add-upper
overflow_add-upper c = omega (arith, small (goal.at.overflow_add-upper c).After-sums_of-one)

pub overflow_add-cross : goal.overflow_add-cross
overflow_add-cross c = omega (arith, small (goal.at.overflow_add-cross c).After-sums_of-one)

pub overflow_add-lower : goal.overflow_add-lower
overflow_add-lower c = omega (arith, small (goal.at.overflow_add-lower c).After-sums_of-one)

pub loop-residue-preserved : goal.loop-residue-preserved
loop-residue-preserved c = summed_more _ _ c.loop-residue-test.true c.loop-residue.invariant c.sums_of-one.ensures
