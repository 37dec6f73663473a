use Prim.Native.Nat.{◌-◌, ◌≤◌}
use mathlib.Core.Bool.{true}
use mathlib.Core.Path.{◌≡◌}
use lib.ListN.{length}
use Rattle.records.specs.declared.Record.{Record}
use Rattle.rules.specs.Inner.{scaled_call_rules_in}
use Rattle.key.proofs.RunOneEntryMore.{Gone}
use Rattle.key.proofs.run.scaled_calls.Given as goal

abbrev pub invariant-loop-at : goal.invariant-loop-at
invariant-loop-at l =
    (l.len ≡ length l.key) × ((l.at ≤ length l.key) × Gone l.key Record.ScaledCall (scaled_call_rules_in l.key l.starts true l.array l.arrays) l.from l.at)

abbrev pub decreases-loop-at : goal.decreases-loop-at
decreases-loop-at l = length l.key - l.at
