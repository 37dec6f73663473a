-- `compare::both::run` meets its contract: with limbs and without them the passes come to the same.
use native.Mathlib.Omega.{arith}
use Rattle.weights.proofs.ZeroTable.{zeros-ready}
use Rattle.compare.proofs.both.run.Goals as goal

pub by_sides-requires-clause-ready : goal.by_sides-requires-clause-ready
by_sides-requires-clause-ready g c =
    (zeros-ready _ 448 (omega arith) (λ l. omega arith), zeros-ready _ 448 (omega arith) (λ l. omega arith))

pub by_sides-requires-2-clause-ready : goal.by_sides-requires-2-clause-ready
by_sides-requires-2-clause-ready g c =
    (zeros-ready _ 64 (omega arith) (λ l. omega arith), zeros-ready _ 64 (omega arith) (λ l. omega arith))
