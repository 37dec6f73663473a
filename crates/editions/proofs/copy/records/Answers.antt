-- `editions::copy::records` meets its contract: each turn puts one record more.
use Rattle.std.specs.Prelude.{Ok}
use Prim.Native.Nat.{ℕ, ◌+◌, ◌≤◌}
use mathlib.Core.Path.{◌≡◌, refl, sym, ap, ◌∙◌}
use native.Mathlib.Omega.{arith}
use lib.ListN.{length}
use Rattle.records.specs.Kinds.{encoded}
use Rattle.refusal.proofs.Outcomes.{ok-unless}
use Rattle.records.specs.Take.{taken_outcome, taken_at}
use Rattle.records.specs.declared.Record.{Record}
use Rattle.editions.specs.Move.{moved_key}
use Rattle.editions.proofs.CopySoFar.{copy-begun, record-fits, copy-on, copy-kept, copy_ended}
use Rattle.editions.proofs.FittingIsPut.{put_next, put-not-refused}
use Rattle.editions.proofs.Overwriting.{overwritten-length}
use Rattle.editions.proofs.RecordsToEnd.{taken-inside, run-taken}
use Rattle.editions.proofs.copy.records.Goals as goal
use Rattle.editions.proofs.copy.records.Goals.{At-loop-at, After-unwrap-item, After-moved}

pub loop-at-init : goal.loop-at-init
loop-at-init c =
    (refl, copy-begun _ c.requires.accepted (λ i. omega (arith, c.shared_slice_known-1.given i)) _ c.requires.key_in_bounds)

-- the buffer keeps its length
kept : (c : At-loop-at) → length c.loop-at.buffer ≡ length c.args.buffer.now
kept c =
    copy-kept _ _ c.loop-at.buffer c.loop-at.at c.loop-at.to c.loop-at.invariant.1
    ∙ overwritten-length (moved_key c.args.key.now) c.args.buffer.now 0 (omega (arith, c.requires.key_in_bounds))

-- a record is there to be taken
pub unwrap-item-requires : goal.unwrap-item-requires
unwrap-item-requires c =
    let i = c.loop-at in
    ok-unless _ (λ f e.
    run-taken _ i.at i.invariant.1.todo i.invariant.1.runs (omega (arith, c.loop-at-test.true, i.invariant.0)) f
    (sym c.take.ensures.answer ∙ ap taken_outcome e))

-- the record that was taken, and the offset behind it
abbrev item : After-unwrap-item → Record
item c = c.unwrap-item.result.0

abbrev next : After-unwrap-item → ℕ
next c = c.unwrap-item.result.1

took : (c : After-unwrap-item) → taken_at c.args.key.now c.loop-at.at ≡ taken_outcome (Ok (item c, next c))
took c = sym c.take.ensures.answer ∙ ap taken_outcome c.unwrap-item.ensures

-- and there is room for it, moved
fits : (c : After-moved) → c.loop-at.to + length (encoded c.moved.result) ≤ length c.loop-at.buffer
fits c =
    let i = c.loop-at in
    omega (
      arith,
      record-fits _ _ i.buffer i.at i.to i.invariant.1 c.unwrap-item.result.0 c.unwrap-item.result.1
          (sym c.take.ensures.answer ∙ ap taken_outcome c.unwrap-item.ensures),
      ap (λ (r : Record). length (encoded r)) c.moved.ensures,
    )

pub unwrap-to-requires : goal.unwrap-to-requires
unwrap-to-requires c =
    ok-unless _ (put-not-refused c.moved.result c.loop-at.buffer c.loop-at.to (fits (goal.at.unwrap-to-requires c).After-moved) c.put.result
    c.put.ensures.answer)

pub loop-at-smaller : goal.loop-at-smaller
loop-at-smaller c =
    omega (arith, taken-inside _ c.loop-at.at (item (goal.at.loop-at-smaller c).After-unwrap-item) (next (goal.at.loop-at-smaller c).After-unwrap-item) (took (goal.at.loop-at-smaller c).After-unwrap-item))

pub loop-at-preserved : goal.loop-at-preserved
loop-at-preserved c =
    let i = c.loop-at in
    let put = put_next c.moved.result i.buffer i.to (fits (goal.at.loop-at-preserved c).After-moved) c.put.result c.put.ensures.answer _
    c.unwrap-to.ensures _ c.put.ensures.buffer in (
      i.invariant.0,
      copy-on _ _ i.buffer i.at i.to i.invariant.1 (item (goal.at.loop-at-preserved c).After-unwrap-item) (next (goal.at.loop-at-preserved c).After-unwrap-item) (took (goal.at.loop-at-preserved c).After-unwrap-item) _ _ _ c.moved.ensures
          put.0 put.1,
    )

pub shape_of-buffer : goal.shape_of-buffer
shape_of-buffer c = kept (goal.at.shape_of-buffer c).At-loop-at

pub returns : goal.returns
returns c =
    let i = c.loop-at in
    copy_ended _ _ i.buffer i.at i.to i.invariant.1 (omega (arith, c.loop-at-test.false, i.invariant.0))
