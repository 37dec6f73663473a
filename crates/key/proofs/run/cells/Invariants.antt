use Prim.Native.Nat.{◌-◌, ◌≤◌}
use mathlib.Core.Path.{◌≡◌}
use lib.ListN.{length}
use Rattle.records.specs.declared.Record.{Record}
use Rattle.rules.specs.Rules.{cell_rules}
use Rattle.key.proofs.RunOneEntryMore.{Gone}
use Rattle.key.proofs.run.cells.Given as goal

abbrev pub invariant-loop-at : goal.invariant-loop-at
invariant-loop-at l =
    (l.len ≡ length l.key) × ((l.at ≤ length l.key) × Gone l.key Record.Cell (cell_rules l.array) l.from l.at)

abbrev pub decreases-loop-at : goal.decreases-loop-at
decreases-loop-at l = length l.key - l.at
