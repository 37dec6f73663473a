-- `report::lines::arrays` meets its contract: one line a turn.
use native.Mathlib.Omega.{arith}
use Rattle.report.proofs.ArrayLines.{listing-room, listing-turn}
use Rattle.report.proofs.lines.arrays.Goals as goal

pub array-requires : goal.array-requires
array-requires c =
    record { i_in_bounds = omega (arith, c.requires.count_in_bounds); room = listing-room _ _ _ _ _ c.loop-i.invariant c.requires.room (omega arith) }

pub loop-i-preserved : goal.loop-i-preserved
loop-i-preserved c = listing-turn _ _ _ _ _ c.loop-i.invariant _ (omega arith) c.array.ensures.line c.array.ensures.few
