use Prim.Native.Nat.{◌≤◌}
use Rattle.weights.specs.Side.{FilledUp}
use Rattle.weights.proofs.table.fill_up.Given as goal

abbrev pub invariant-loop-i : goal.invariant-loop-i
invariant-loop-i g l = FilledUp g.S.Scalar.elements l.initial.table l.from l.i l.table × (l.from ≤ l.i) × (l.i ≤ l.to)
