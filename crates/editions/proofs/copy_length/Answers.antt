-- `editions::copy_length` meets its contract: four bytes a call, less or more by the edition.
use native.Mathlib.Omega.{arith}
use mathlib.Core.Path.{sym, ◌∙◌}
use Rattle.records.proofs.NumberBytes.{AreBytes}
use Rattle.key.proofs.CountBounds.{calls-few}
use Rattle.key.proofs.Acceptance.{acceptance}
use Rattle.editions.proofs.MovedRecords.{longer, shorter}
use Rattle.editions.proofs.copy_length.Goals as goal
use Rattle.editions.proofs.copy_length.Goals.{After-shared_slice_known-1}

-- a slice's elements are bytes
bytes : (c : After-shared_slice_known-1) → AreBytes c.args.key.now
bytes c i = omega (arith, c.shared_slice_known-1.given i)

pub overflow_mul-factors : goal.overflow_mul-factors
overflow_mul-factors c = omega (arith, calls-few _ _ c.requires)

pub scaled-requires : goal.scaled-requires
scaled-requires c = (_, c.requires)

pub overflow_sub-result : goal.overflow_sub-result
overflow_sub-result c =
    omega (arith, shorter _ _ c.requires (bytes (goal.at.overflow_sub-result c).After-shared_slice_known-1) (sym c.scaled.ensures ∙ c.if-scaled.true))

pub returns-then-scaled : goal.returns-then-scaled
returns-then-scaled c =
    omega (arith, shorter _ _ c.requires (bytes (goal.at.returns-then-scaled c).After-shared_slice_known-1) (sym c.scaled.ensures ∙ c.if-scaled.true))

pub overflow_add-result : goal.overflow_add-result
overflow_add-result c =
    omega (arith, calls-few _ _ c.requires, (acceptance _ _ c.requires).at_most_65536)

pub returns : goal.returns
returns c =
    longer _ _ c.requires (bytes (goal.at.returns c).After-shared_slice_known-1) (sym c.scaled.ensures ∙ c.if-scaled.false)
