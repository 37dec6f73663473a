-- What putting answers and leaves, by cases, and what an answer that gives an offset shows of the room.
use Prim.Native.Nat.{ℕ, ◌+◌, ◌-◌, ◌≤◌, ◌<◌}
use mathlib.Core.List.{List, append-nil, append_assoc}
use mathlib.Core.Path.{◌≡◌, sym, ap, ◌∙◌}
use native.Mathlib.Decide.{dec_le}
use native.Mathlib.Nat.{zero-add}
use native.Mathlib.Omega.{arith}
use borrow.Author.Tests.{lt-ltb, le-ltb}
use borrow.Rule.Slice.PartMut.{put_mid, mid_of, Post-is}
use lib.ListN.{length, take, drop, length-drop}
use lib.Seq.{sets, sets-eq, take_all, drop-length, drop-drop}
use Rattle.refusal.specs.Outcome.{Outcome, given, refuse}
use Rattle.refusal.specs.declared.Reason.{Reason}
use Rattle.refusal.proofs.Outcomes.{given-not-refused}
use Rattle.records.specs.Kinds.{encoded}
use Rattle.records.specs.Put.{Putting, overwritten, put_at}
use Rattle.records.specs.declared.Record.{Record}

-- a refusal leaves the buffer as it was
abbrev pub untouched : Outcome ℕ → List ℕ → Putting
untouched answer buffer = record { answer = answer; buffer = buffer }

module _ (r : Record) (buffer : List ℕ) (at : ℕ) where
  pub offset-refused : length buffer < at → put_at r buffer at ≡ untouched (refuse Reason.OffsetTooGreat (length buffer)) buffer
  unfolding put_at
  offset-refused l = simp (lt-ltb (length buffer) at l)

  pub length-refused : at ≤ length buffer → length buffer - at < length (encoded r) →
      put_at r buffer at ≡ untouched (refuse Reason.BufferTooShort (length (encoded r))) buffer
  unfolding put_at
  length-refused l long = simp (le-ltb (length buffer) at l, lt-ltb (length buffer - at) (length (encoded r)) long)

  pub record-put : at ≤ length buffer → length (encoded r) ≤ length buffer - at →
      put_at r buffer at ≡ record { answer = given (at + length (encoded r)); buffer = overwritten (encoded r) buffer at }
  unfolding put_at
  record-put l room = simp (le-ltb (length buffer) at l, le-ltb (length buffer - at) (length (encoded r)) room)

  -- putting gives an offset only where the record fits
  pub record Room (next : ℕ) : Type 0 where
    pub fits : at + length (encoded r) ≤ length buffer
    pub end : next ≡ at + length (encoded r)
    pub holds : (put_at r buffer at).buffer ≡ overwritten (encoded r) buffer at

  pub given-room : (next : ℕ) → (put_at r buffer at).answer ≡ given next → Room next
  given-room next e =
      elim (dec_le at (length buffer)) [
        | no h ↦ absurd (given-not-refused (sym e ∙ ap (λ (q : Putting). q.answer) (offset-refused (omega arith))))
        | yes h ↦ (elim (dec_le (length (encoded r)) (length buffer - at)) [
          | no m ↦ absurd (given-not-refused (sym e ∙ ap (λ (q : Putting). q.answer) (length-refused h (omega arith))))
          | yes m ↦ (let answer : given next ≡ given (at + length (encoded r)) = sym e ∙ ap (λ (q : Putting). q.answer) (record-put h m) in
              record { fits = omega arith; end = cc; holds = ap (λ (q : Putting). q.buffer) (record-put h m) })
        ])
      ]

-- ---- writing through a part of the buffer

-- a part from an offset on whose front is written, put back
pub part-written : (at : ℕ) (buffer bytes : List ℕ) → at ≤ length buffer → length bytes ≤ length buffer - at →
    put_mid at (length buffer - at) buffer (sets (mid_of at (length buffer - at) buffer) 0 bytes) ≡ overwritten bytes buffer at
part-written at buffer bytes within room =
    let len : length (drop at buffer) ≡ length buffer - at = length-drop at buffer in
    let all : length (drop at buffer) ≤ length buffer - at = omega arith in
    let fits : 0 + length bytes ≤ length (drop at buffer) = omega arith in
    rw (
      take_all (length buffer - at) (drop at buffer) all,
      Post-is at (length buffer) buffer within,
      drop-length buffer,
      append-nil,
      sets-eq bytes (drop at buffer) 0 fits,
      zero-add,
      drop-drop (length bytes) at buffer,
    )
    (sym (append_assoc (take at buffer) bytes (drop (at + length bytes) buffer)))
