-- Taking what was put gives the record back, and putting what was taken gives the bytes back.
use Rattle.refusal.specs.declared.Refusal.{Refusal}
use Rattle.std.specs.Prelude.{Result, Ok}
use Prim.Native.Nat.{ℕ, suc, ◌+◌, ◌-◌, ◌≤◌, ◌<◌}
use mathlib.Core.List.{List, ◌∷◌, ◌++◌, append_assoc}
use mathlib.Core.Path.{◌≡◌, sym, ap, ap₂, ◌∙◌}
use native.Mathlib.Omega.{arith}
use lib.ListN.{length, get_or, take, drop, length-append, length-drop, take-append-drop}
use lib.Seq.{drop-append-add, get_or-append_seam, length-take-le, take-add}
use Rattle.refusal.specs.Outcome.{given, refuse}
use Rattle.refusal.specs.declared.Reason.{Reason}
use Rattle.refusal.proofs.Outcomes.{given-not-refused}
use Rattle.records.specs.Inner.{size_of, Fitting}
use Rattle.records.specs.Kinds.{kind_of, fields_of, widths_of, encoded}
use Rattle.records.specs.Layout.{field_bytes, total}
use Rattle.records.specs.Put.{Putting, written_outcome, overwritten, put_at}
use Rattle.records.specs.RoundTrip.{ReadBack, Again, WrittenAgain}
use Rattle.records.specs.Take.{Found, taken_outcome, taken_at}
use Rattle.records.specs.declared.Record.{Record}
use Rattle.records.proofs.FieldBytes.{length_fields, fields_back, bytes-dropped, bytes_back}
use Rattle.records.proofs.NumberBytes.{AreBytes, drop-from}
use Rattle.records.proofs.PutCases.{untouched, Room, given-room, record-put}
use Rattle.records.proofs.RecordSizes.{size-encoded}
use Rattle.records.proofs.TakeCases.{found, record-given, Whole, given-whole, given-onward}

-- a record whose bytes stand between any others is taken
pub taken-between : (r : Record) (before behind : List ℕ) → Fitting r →
    taken_at (before ++ (encoded r ++ behind)) (length before) ≡ taken_outcome (Ok (r, (length before + length (encoded r))))
taken-between r before behind fit =
    record-given bytes at within (λ e. omega (arith, sized)) (omega (arith, sized, all))
    ∙ ap₂ (λ (kind : ℕ) (rest : List ℕ). given (found at kind (widths_of kind) rest)) kind rest
    ∙ ap₂ (λ (fields : List ℕ) (next : ℕ). given (record { kind = kind_of r; fields = fields; next = next }))
    (fields_back widths (fields_of r) behind fit) (omega (arith, length_fields widths (fields_of r) fit))
  where
    at : ℕ
    at = length before

    widths : List ℕ
    widths = widths_of (kind_of r)

    body : List ℕ
    body = field_bytes widths (fields_of r)

    bytes : List ℕ
    bytes = before ++ (encoded r ++ behind)

    all : length bytes ≡ at + (1 + (total widths + length behind))
    all =
        length-append before (encoded r ++ behind)
        ∙ ap (λ (n : ℕ). at + n) (omega (arith, length-append body behind, length_fields widths (fields_of r) fit))

    within : at < length bytes
    within = omega (arith, all)

    kind : get_or bytes at 0 ≡ kind_of r
    kind = get_or-append_seam before (kind_of r) (body ++ behind) 0

    rest : drop (at + 1) bytes ≡ body ++ behind
    rest = drop-append-add before (encoded r ++ behind) 1

    sized : size_of (get_or bytes at 0) ≡ 1 + total widths
    sized = ap size_of kind ∙ size-encoded r ∙ ap suc (length_fields widths (fields_of r) fit) ∙ omega arith

-- what was put is taken, with the offset that putting answered
pub put-taken : (r : Record) → Fitting r → (buffer : List ℕ) (at next : ℕ) → (put_at r buffer at).answer ≡ given next →
    taken_at (put_at r buffer at).buffer at ≡ taken_outcome (Ok (r, next))
put-taken r fit buffer at next e =
    let room : Room r buffer at next = given-room r buffer at next e in
    let front : length (take at buffer) ≡ at = length-take-le at buffer (omega arith) in
    rw (room.holds, room.end, append_assoc)
    (rw front at (taken-between r (take at buffer) (drop (at + length (encoded r)) buffer) fit))

-- what was taken is put as the bytes that it was taken from
module _ (bytes : List ℕ) (are : AreBytes bytes) (at next : ℕ) (r : Record) (e : taken_at bytes at ≡ taken_outcome (Ok (r, next))) where
  taken : Found
  taken = record { kind = kind_of r; fields = fields_of r; next = next }

  whole : Whole bytes at taken
  unfolding taken
  whole = given-whole bytes at taken e

  widths : List ℕ
  widths = widths_of (get_or bytes at 0)

  end : next ≡ at + (1 + total widths)
  unfolding taken widths
  end = ap (λ (t : Found). t.next) whole.is

  onward : (at < next) × (next ≤ length bytes)
  unfolding taken
  onward = given-onward bytes at taken e

  body : field_bytes (widths_of (kind_of r)) (fields_of r) ≡ take (total widths) (drop (at + 1) bytes)
  unfolding taken widths
  body =
      ap₂ (λ (kind : ℕ) (fields : List ℕ). field_bytes (widths_of kind) fields)
      (ap (λ (t : Found). t.kind) whole.is) (ap (λ (t : Found). t.fields) whole.is)
      ∙ bytes_back (widths_of (get_or bytes at 0)) (drop (at + 1) bytes) (bytes-dropped (at + 1) bytes are)
      (omega (arith, length-drop (at + 1) bytes, whole.room))

  -- the bytes that it was taken from
  pub taken-bytes : encoded r ≡ take (next - at) (drop at bytes)
  unfolding taken widths
  taken-bytes =
      let size : suc (total (widths_of (get_or bytes at 0))) ≡ next - at = omega (arith, end) in
      ap₂ ◌∷◌ (ap (λ (t : Found). t.kind) whole.is) body
      ∙ ap (take (suc (total (widths_of (get_or bytes at 0))))) (sym (drop-from bytes at whole.inside))
      ∙ ap (λ (n : ℕ). take n (drop at bytes)) size

  length-source : length (encoded r) ≡ next - at
  length-source =
      ap length taken-bytes ∙ length-take-le (next - at) (drop at bytes) (omega (arith, onward, length-drop at bytes))

  unchanged : overwritten (encoded r) bytes at ≡ bytes
  unchanged =
      ap₂ (λ (b : List ℕ) (n : ℕ). take at bytes ++ b ++ drop (at + n) bytes) taken-bytes length-source
      ∙ ap (λ (b : List ℕ). b ++ drop (at + (next - at)) bytes) (sym (take-add at (next - at) bytes))
      ∙ take-append-drop (at + (next - at)) bytes

  there : put_at r bytes at ≡ record { answer = given next; buffer = bytes }
  there =
      record-put r bytes at (omega (arith, onward)) (omega (arith, onward, length-source))
      ∙ ap₂ (λ (n : ℕ) (b : List ℕ). record { answer = given n; buffer = b }) (omega (arith, onward, length-source)) unchanged

  elsewhere : (buffer : List ℕ) (to : ℕ) → to + (next - at) ≤ length buffer →
      put_at r buffer to ≡
      record { answer = given (to + (next - at)); buffer = overwritten (take (next - at) (drop at bytes)) buffer to }
  elsewhere buffer to fits =
      record-put r buffer to (omega arith) (omega (arith, length-source))
      ∙ ap₂ (λ (n : ℕ) (b : List ℕ). record { answer = given (to + n); buffer = overwritten b buffer to }) length-source taken-bytes

  pub taken-put : Again r bytes at next
  taken-put = record { onward = onward.0; within = onward.1; there = there; elsewhere = elsewhere }

-- ---- the promises of take and put

pub take-promise : (bytes : List ℕ) → AreBytes bytes → (at : ℕ) (answer : Result (Record × ℕ) Refusal) → taken_outcome answer ≡ taken_at bytes at →
    (taken_outcome answer ≡ taken_at bytes at) × WrittenAgain answer bytes at
take-promise bytes are at answer e = (e, λ item next g. taken-put bytes are at next item (sym e ∙ ap taken_outcome g))

module _ (item : Record) (before : List ℕ) (at : ℕ) (answer : Result ℕ Refusal) where
  abbrev Promise : List ℕ → Type 0
  Promise after =
      (written_outcome answer ≡ (put_at item before at).answer) × ((after ≡ (put_at item before at).buffer) × ReadBack item answer after at)

  pub put-promise : (after : List ℕ) → Fitting item → written_outcome answer ≡ (put_at item before at).answer →
      after ≡ (put_at item before at).buffer → Promise after
  put-promise after fit e f =
      (e, (f, λ next g. ap (λ (buffer : List ℕ). taken_at buffer at) f ∙ put-taken item fit before at next (sym e ∙ ap written_outcome g)))

  -- a refusal leaves nothing to be read back
  pub refused-promise : (reason : Reason) (place : ℕ) → written_outcome answer ≡ refuse reason place →
      put_at item before at ≡ untouched (refuse reason place) before → Promise before
  refused-promise reason place e f = (
    e ∙ sym (ap (λ (q : Putting). q.answer) f),
    (
      sym (ap (λ (q : Putting). q.buffer) f),
      λ next g. absurd (given-not-refused (sym (ap written_outcome g) ∙ e)),
    ),
  )
