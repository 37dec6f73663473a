use Prim.Native.Nat.{◌≤◌}
use Rattle.weights.specs.Side.{BlockGrown}
use Rattle.weights.proofs.table.grow.Given as goal

abbrev pub invariant-loop-level : goal.invariant-loop-level
invariant-loop-level g l = BlockGrown g.S.Scalar.elements l.initial.table l.block l.level l.table × (l.level ≤ 5)
