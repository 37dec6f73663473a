-- `editions::factors::first_other` meets its contract: a key of edition 1 has no factors, and of a key of edition 2 the records before the
-- offset have none but 1.
use Rattle.std.specs.Prelude.{Ok}
use Prim.Native.Nat.{ℕ}
use mathlib.Core.Path.{◌≡◌, refl, sym, ap, ◌∙◌}
use native.Mathlib.Omega.{arith}
use Rattle.refusal.proofs.Outcomes.{ok-unless}
use Rattle.records.specs.Take.{taken_outcome, taken_at}
use Rattle.records.specs.declared.Record.{Record}
use Rattle.editions.proofs.RecordsToEnd.{taken-inside, run-taken}
use Rattle.editions.proofs.SearchSoFar.{none_ahead, all-ahead, found_here, search-on, search-ended}
use Rattle.editions.proofs.factors.first_other.Goals as goal
use Rattle.editions.proofs.factors.first_other.Goals.{After-unwrap-item}

pub returns-then-not-scaled : goal.returns-then-not-scaled
returns-then-not-scaled c = none_ahead _ c.requires (sym c.scaled.ensures ∙ c.if-not-scaled.true)

pub loop-at-init : goal.loop-at-init
loop-at-init c =
    (refl, all-ahead _ c.requires (λ i. omega (arith, c.shared_slice_known-1.given i)))

-- a record is there to be taken
pub unwrap-item-requires : goal.unwrap-item-requires
unwrap-item-requires c =
    let i = c.loop-at in
    ok-unless _ (λ f e.
    run-taken _ i.at i.invariant.1.todo i.invariant.1.runs (omega (arith, c.loop-at-test.true, i.invariant.0)) f
    (sym c.take.ensures.answer ∙ ap taken_outcome e))

-- the record that was taken, and the offset behind it
abbrev item : After-unwrap-item → Record
item c = c.unwrap-item.result.0

abbrev next : After-unwrap-item → ℕ
next c = c.unwrap-item.result.1

took : (c : After-unwrap-item) → taken_at c.args.key.now c.loop-at.at ≡ taken_outcome (Ok (item c, next c))
took c = sym c.take.ensures.answer ∙ ap taken_outcome c.unwrap-item.ensures

pub returns-then-has_other : goal.returns-then-has_other
returns-then-has_other c =
    let i = c.loop-at in
    found_here _ i.at i.invariant.1 (item (goal.at.returns-then-has_other c).After-unwrap-item) (next (goal.at.returns-then-has_other c).After-unwrap-item) (took (goal.at.returns-then-has_other c).After-unwrap-item) (sym c.has_other.ensures ∙ c.if-has_other.true)

pub loop-at-smaller : goal.loop-at-smaller
loop-at-smaller c =
    omega (arith, taken-inside _ c.loop-at.at (item (goal.at.loop-at-smaller c).After-unwrap-item) (next (goal.at.loop-at-smaller c).After-unwrap-item) (took (goal.at.loop-at-smaller c).After-unwrap-item))

pub loop-at-preserved : goal.loop-at-preserved
loop-at-preserved c =
    let i = c.loop-at in
    (i.invariant.0, search-on _ i.at i.invariant.1 (item (goal.at.loop-at-preserved c).After-unwrap-item) (next (goal.at.loop-at-preserved c).After-unwrap-item) (took (goal.at.loop-at-preserved c).After-unwrap-item) (sym c.has_other.ensures ∙ c.if-has_other.false))

pub returns : goal.returns
returns c =
    let i = c.loop-at in
    search-ended _ i.at i.invariant.1 (omega (arith, c.loop-at-test.false, i.invariant.0))
