use Prim.Native.Nat.{◌-◌}
use mathlib.Core.Path.{◌≡◌}
use lib.ListN.{length}
use Rattle.key.specs.Inner.{opens_or_ends, Here, Only}
use Rattle.key.proofs.run.arrays.Given as goal

abbrev pub invariant-loop-at : goal.invariant-loop-at
invariant-loop-at l =
    (l.len ≡ length l.key) × ((length l.starts ≡ length l.initial.starts) × (Here l.key l.starts l.s l.at × Only opens_or_ends l.key l.starts l.s l.at))

abbrev pub decreases-loop-at : goal.decreases-loop-at
decreases-loop-at l = length l.key - l.at
