use Prim.Native.Nat.{◌-◌}
use mathlib.Core.Path.{◌≡◌}
use lib.ListN.{length}
use Rattle.records.specs.Put.{overwritten}
use Rattle.editions.specs.Move.{moved_key}
use Rattle.editions.proofs.CopySoFar.{Partway}
use Rattle.editions.proofs.copy.records.Given as goal

abbrev pub invariant-loop-at : goal.invariant-loop-at
invariant-loop-at l =
    (l.len ≡ length l.key) × Partway l.key (overwritten (moved_key l.key) l.initial.buffer 0) l.buffer l.at l.to

abbrev pub decreases-loop-at : goal.decreases-loop-at
decreases-loop-at l = length l.key - l.at
