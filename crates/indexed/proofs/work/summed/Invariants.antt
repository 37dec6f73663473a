use Prim.Native.Nat.{◌*◌, ◌≤◌}
use Rattle.indexed.proofs.work.summed.Given as goal

-- no more arrays have been counted than were passed, which are at most 1,024
abbrev pub invariant-loop-back : goal.invariant-loop-back
invariant-loop-back l = (l.back ≤ 1024) × (l.bytes ≤ 65536 * l.back) × (l.saved ≤ 33423360 * l.back)
