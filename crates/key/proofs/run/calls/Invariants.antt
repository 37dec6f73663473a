use Prim.Native.Nat.{◌-◌, ◌≤◌}
use mathlib.Core.Bool.{false}
use mathlib.Core.Path.{◌≡◌}
use lib.ListN.{length}
use Rattle.records.specs.declared.Record.{Record}
use Rattle.rules.specs.Inner.{call_rules_in}
use Rattle.key.proofs.RunOneEntryMore.{Gone}
use Rattle.key.proofs.run.calls.Given as goal

abbrev pub invariant-loop-at : goal.invariant-loop-at
invariant-loop-at l =
    (l.len ≡ length l.key) × ((l.at ≤ length l.key) × Gone l.key Record.Call (call_rules_in l.key l.starts false l.array l.arrays) l.from l.at)

abbrev pub decreases-loop-at : goal.decreases-loop-at
decreases-loop-at l = length l.key - l.at
