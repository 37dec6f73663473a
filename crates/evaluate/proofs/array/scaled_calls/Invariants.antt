use Prim.Native.Nat.{◌-◌, ◌≤◌}
use mathlib.Core.Path.{◌≡◌}
use lib.ListN.{length}
use Rattle.weights.specs.Side.{prepared}
use Rattle.indexed.specs.Entries.{behind}
use Rattle.evaluation.proofs.EntriesInBytes.{CallsIn}
use Rattle.evaluate.specs.Inner.{reduced_in}
use Rattle.evaluate.proofs.UnreducedSums.{Bounded}
use Rattle.evaluate.proofs.array.scaled_calls.Given as goal

abbrev pub invariant-loop-bytes : goal.invariant-loop-bytes
invariant-loop-bytes g l =
    let 𝓔 = g.S.Scalar.elements in
    let rest = l.bytes-iterator.rest.now in
    (goal.iterator-loop-bytes g).can_next l.bytes-iterator ×
    (goal.iterator-loop-bytes g).is_finite l.bytes-iterator ×
    (l.bytes-iterator.size ≡ 15) ×
    (length rest ≤ 65536) ×
    Bounded g.S.Scalar.size l.sums (65536 - length rest) ×
    CallsIn 𝓔.scalars l.key.bytes.now (prepared 𝓔 l.tables.rowwise.now) (prepared 𝓔 l.tables.columnwise.now) l.sheet l.i
    (behind l.key.bytes.now l.i) (reduced_in 𝓔 g.S.Scalar.sum l.sums) rest
