use Rattle.std.proofs.Common.{◌∙◌, arith}
use Rattle.stats.proofs.Blocks.{chunked_none, chunk-below, chunked_fit, chunked_more, block-moduli}
use Rattle.stats.proofs.sums.sum_residues.Goals as goal

pub loop-block-init : goal.loop-block-init
loop-block-init c =
    let made = c.chunks-block-items.ensures in
    let none = c.no_totals-totals.ensures in
    rw c.into_iter-block-iterator.ensures.into_iter_gives
    (made.size, rw made.rest (chunked_none c.args.modulus c.args.residues.now none.0 none.1 none.2))

-- a block is no longer than asked, and its residues are below the modulus
pub block_sums-requires : goal.block_sums-requires
block_sums-requires c =
    let cut = c.in-Some.ensures.steps in
    (omega (arith, cut.1.1, c.loop-block.invariant.0), c.requires.1, chunk-below _ _ c.loop-block.invariant.1 c.requires.1 c.requires.2 _ _ cut.1.0)

pub with_block-totals-requires : goal.with_block-totals-requires
with_block-totals-requires c =
    let cut = c.in-Some.ensures.steps in
    let chunked = c.loop-block.invariant.1 in
    let below = chunk-below _ _ chunked c.requires.1 c.requires.2 _ _ cut.1.0 in (
      chunked_fit _ _ chunked c.requires.1 c.requires.2 c.requires.0,
      rw c.block_sums.ensures (block-moduli c.args.modulus _ c.requires.1 below (omega (arith, cut.1.1, c.loop-block.invariant.0))),
    )

pub loop-block-preserved : goal.loop-block-preserved
loop-block-preserved c =
    let cut = c.in-Some.ensures.steps in
    let more = c.with_block-totals.ensures in (
      cut.0 ∙ c.loop-block.invariant.0,
      chunked_more _ _ c.loop-block.invariant.1 c.requires.1 c.requires.2 _ _ cut.1.0 c.block_sums.ensures
          more.residues_value more.moduli_value more.squares_value,
    )
