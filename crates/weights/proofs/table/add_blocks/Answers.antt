-- `weights::table::add_blocks` meets its contract: one block a turn.
use native.Mathlib.Omega.{arith}
use Rattle.weights.proofs.AllLimbBlocks.{blocks-turn}
use Rattle.weights.proofs.table.add_blocks.Goals as goal

pub loop-block-preserved : goal.loop-block-preserved
loop-block-preserved g c =
    let l = c.loop-block-test.true in (
      blocks-turn g.S.Scalar.elements _ _ _ c.loop-block.block (omega (arith, c.requires.0, l)) c.loop-block.invariant.0
          c.add_block.ensures,
      omega (arith, l),
    )
