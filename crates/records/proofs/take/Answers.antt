-- `records::take` meets its contract: each answer is a case of `taken_at`, and a record that was taken is put as it was.
use Rattle.std.specs.Prelude.{Result}
use Prim.Native.Nat.{ℕ}
use mathlib.Core.Path.{◌≡◌, sym, ap, ◌∙◌}
use native.Mathlib.Omega.{arith}
use Rattle.refusal.specs.Outcome.{refusal_of}
use Rattle.refusal.specs.declared.Refusal.{Refusal}
use Rattle.records.specs.RoundTrip.{WrittenAgain}
use Rattle.records.specs.Take.{taken_outcome, taken_at}
use Rattle.records.specs.declared.Record.{Record}
use Rattle.records.proofs.RoundTrip.{take-promise}
use Rattle.records.proofs.TakeCases.{offset-refused, missing-refused, unknown-refused, cut-refused, read-given, size_is}
use Rattle.records.proofs.take.Goals as goal
use Rattle.records.proofs.take.Goals.{After-shared_slice_known-1}

-- a slice's elements are bytes, so what is promised of an answer follows from its outcome
promise : (c : After-shared_slice_known-1) (answer : Result (Record × ℕ) Refusal) →
    taken_outcome answer ≡ taken_at c.args.bytes.now c.args.at →
    (taken_outcome answer ≡ taken_at c.args.bytes.now c.args.at) ×
    WrittenAgain answer c.args.bytes.now c.args.at
promise c = take-promise c.args.bytes.now (λ i. omega (arith, c.shared_slice_known-1.given i)) c.args.at

pub returns-then-len-at : goal.returns-then-len-at
returns-then-len-at c =
    let told = promise (goal.at.returns-then-len-at c).After-shared_slice_known-1 _
    (ap refusal_of c.new.ensures ∙ sym (offset-refused _ _ c.if-len-at.true)) in
    record { answer = told.0; again = told.1 }

pub returns-then-len-at-2 : goal.returns-then-len-at-2
returns-then-len-at-2 c =
    let told = promise (goal.at.returns-then-len-at-2 c).After-shared_slice_known-1 _
    (ap refusal_of c.new-then-len-at-2.ensures ∙ sym (missing-refused _ _ c.if-len-at.false c.if-len-at-2.true)) in
    record { answer = told.0; again = told.1 }

pub returns-then-size-eq0 : goal.returns-then-size-eq0
returns-then-size-eq0 c =
    let told = promise (goal.at.returns-then-size-eq0 c).After-shared_slice_known-1 _
    (ap refusal_of c.new-then-size-eq0.ensures
    ∙ sym (unknown-refused _ _ c.if-len-at-2.false (sym c.size_of-size.ensures ∙ c.if-size-eq0.true))) in
    record { answer = told.0; again = told.1 }

pub returns-then-len-at-3 : goal.returns-then-len-at-3
returns-then-len-at-3 c =
    let told = promise (goal.at.returns-then-len-at-3 c).After-shared_slice_known-1 _
    (ap refusal_of c.new-then-len-at-3.ensures
    ∙ sym (cut-refused _ _ c.if-len-at-2.false (λ z. c.if-size-eq0.false (c.size_of-size.ensures ∙ z))
    (rw c.size_of-size.ensures at c.if-len-at-3.true))) in
    record { answer = told.0; again = told.1 }

pub record-item-requires : goal.record-item-requires
record-item-requires c =
    let size = c.size_of-size.ensures in
    let some : _ → ⊥ = λ z. c.if-size-eq0.false (size ∙ z) in
    let start = c.args in
    record { known = omega arith; whole = omega (arith, size_is start.bytes.now start.at c.if-len-at-2.false some) }

pub returns : goal.returns
returns c =
    let told = promise (goal.at.returns c).After-shared_slice_known-1 _
    (read-given _ _ c.if-len-at-2.false
    (λ z. c.if-size-eq0.false (c.size_of-size.ensures ∙ z)) _ _ _
    c.size_of-size.ensures c.if-len-at-3.false c.record-item.ensures.kind c.record-item.ensures.fields) in
    record { answer = told.0; again = told.1 }
