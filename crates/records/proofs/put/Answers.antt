-- `records::put` meets its contract: each answer and what it leaves are a case of `put_at`, and a record that was put is taken.
use Prim.Native.Nat.{ℕ, ◌+◌, ◌-◌, ◌≤◌}
use mathlib.Core.Path.{◌≡◌, sym, ap, ◌∙◌}
use native.Mathlib.Omega.{arith}
use borrow.Rule.Slice.PartMut.{put_mid}
use lib.ListN.{length}
use Rattle.refusal.specs.Outcome.{given, refuse, refusal_of}
use Rattle.refusal.specs.declared.Reason.{Reason}
use Rattle.records.specs.Inner.{size_of}
use Rattle.records.specs.Kinds.{encoded}
use Rattle.records.specs.Put.{Putting}
use Rattle.records.proofs.PutCases.{offset-refused, length-refused, record-put, part-written}
use Rattle.records.proofs.RecordSizes.{size-encoded}
use Rattle.records.proofs.RoundTrip.{put-promise, refused-promise}
use Rattle.records.proofs.put.Goals as goal
use Rattle.records.proofs.put.Goals.{After-size_of-size}

pub returns-then-len-at : goal.returns-then-len-at
returns-then-len-at c =
    let start = c.args in
    let told = refused-promise start.item start.buffer.now start.at _ _ _ (ap refusal_of c.new.ensures)
    (offset-refused start.item start.buffer.now start.at c.if-len-at.true) in
    record { answer = told.0; buffer = told.1.0; back = told.1.1 }

-- the size is the length of the record's bytes
size : (c : After-size_of-size) → c.size_of-size.result ≡ length (encoded c.args.item)
size c = c.size_of-size.ensures ∙ ap size_of c.kind_of.ensures ∙ size-encoded c.args.item

pub returns-then-room-size : goal.returns-then-room-size
returns-then-room-size c =
    let start = c.args in
    let told = refused-promise start.item start.buffer.now start.at _ _ _
    (ap refusal_of c.new-then-room-size.ensures ∙ ap (refuse Reason.BufferTooShort) (size (goal.at.returns-then-room-size c).After-size_of-size))
    (length-refused start.item start.buffer.now start.at c.if-len-at.false
    (rw (size (goal.at.returns-then-room-size c).After-size_of-size) at c.if-room-size.true)) in
    record { answer = told.0; buffer = told.1.0; back = told.1.1 }

pub record-requires : goal.record-requires
record-requires c = omega (arith, size (goal.at.record-requires c).After-size_of-size)

pub returns : goal.returns
returns c =
    let start = c.args in
    let within = c.if-len-at.false in
    let room : length (encoded start.item) ≤ length start.buffer.now - start.at =
    rw (size (goal.at.returns c).After-size_of-size) at c.if-room-size.false in
    let put-there = record-put start.item start.buffer.now start.at within room in
    let told = put-promise start.item start.buffer.now start.at _ _ c.record.ensures.fits
    (ap (λ (n : ℕ). given (start.at + n)) (size (goal.at.returns c).After-size_of-size) ∙ sym (ap (λ (q : Putting). q.answer) put-there))
    (ap (put_mid start.at (length start.buffer.now - start.at) start.buffer.now) c.record.ensures.part
    ∙ part-written start.at start.buffer.now (encoded start.item) within room
    ∙ sym (ap (λ (q : Putting). q.buffer) put-there)) in
    record { answer = told.0; buffer = told.1.0; back = told.1.1 }
