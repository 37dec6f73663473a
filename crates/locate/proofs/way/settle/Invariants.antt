use Prim.Native.Nat.{◌-◌}
use lib.ListN.{length}
use Rattle.location.proofs.WayOnSheet.{SettledSoFar}
use Rattle.locate.proofs.way.settle.Given as goal

abbrev pub invariant-loop-i : goal.invariant-loop-i
invariant-loop-i l = SettledSoFar l.first l.second l.row_bits l.initial.point l.initial.sheet l.point l.sheet l.i

abbrev pub decreases-loop-i : goal.decreases-loop-i
decreases-loop-i l = length l.initial.point - l.i
