use Prim.Native.Nat.{◌≤◌}
use lib.ListN.{length}
use Rattle.weights.specs.Side.{Paired}
use Rattle.weights.proofs.table.pair_up.Given as goal

abbrev pub invariant-loop-i : goal.invariant-loop-i
invariant-loop-i g l =
    let coordinates = g.S.Scalar.elements.scalars.elements l.coordinates in
    Paired g.S.Scalar.elements coordinates l.initial.table l.i l.table × (l.i ≤ length coordinates)
