use Prim.Native.Nat.{◌-◌}
use Rattle.report.proofs.Coordinates.{Filling}
use Rattle.report.proofs.input.numbers.Given as goal

abbrev pub invariant-loop-i : goal.invariant-loop-i
invariant-loop-i l = Filling l.input l.from l.count l.initial.table l.table l.i

abbrev pub decreases-loop-i : goal.decreases-loop-i
decreases-loop-i l = l.count - l.i
