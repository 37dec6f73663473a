use Prim.Native.Nat.{◌*◌, ◌≤◌}
use Rattle.weights.specs.Side.{Widened}
use Rattle.weights.proofs.table.widen.Given as goal

abbrev pub invariant-loop-j : goal.invariant-loop-j
invariant-loop-j g l =
    Widened g.S.Scalar.elements l.initial.table l.base l.half (g.S.Scalar.elements.element l.odd) l.j l.table
    × (l.half ≤ l.j) × (l.j ≤ 2 * l.half)
