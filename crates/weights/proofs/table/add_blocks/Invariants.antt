use Prim.Native.Nat.{◌≤◌}
use Rattle.weights.specs.Side.{BlocksMade}
use Rattle.weights.proofs.table.add_blocks.Given as goal

abbrev pub invariant-loop-block : goal.invariant-loop-block
invariant-loop-block g l = BlocksMade g.S.Scalar.elements l.initial.table l.block l.table × (l.block ≤ l.blocks)
