-- What taking answers, by cases, and what an answer that gives a record shows of the bytes.
use Prim.Native.Nat.{ℕ, ◌+◌, ◌-◌, ◌≤◌, ◌<◌}
use mathlib.Core.List.{List, []}
use mathlib.Core.Option
use mathlib.Core.Option.{Option, none, some, map}
use mathlib.Core.Path.{◌≡◌, refl, sym, ap, ◌∙◌}
use native.Mathlib.Decide.{dec_le, ℕ_discrete}
use native.Mathlib.Omega.{arith}
use borrow.Author.Tests.{lt-ltb, le-ltb}
use lib.ListN.{length, get_or, drop, length-drop, drop_of_length-le}
use Rattle.refusal.specs.Outcome.{given, refuse}
use Rattle.refusal.specs.declared.Reason.{Reason}
use Rattle.refusal.proofs.Outcomes.{given-not-refused}
use Rattle.records.specs.Inner.{size_of}
use Rattle.records.specs.Kinds.{widths_of}
use Rattle.records.specs.Layout.{layout, lookup, fields_in, total}
use Rattle.records.specs.Take.{Found, taken_as, taken_from, taken_at}
use Rattle.records.proofs.NumberBytes.{drop-from}

-- the record of known widths in front of some bytes
abbrev pub found : ℕ → ℕ → List ℕ → List ℕ → Found
found at kind widths rest = record { kind = kind; fields = fields_in widths rest; next = at + (1 + total widths) }

module _ (at kind : ℕ) (widths rest : List ℕ) where
  cut_off : length rest < total widths → taken_as at kind (some widths) rest ≡ refuse Reason.RecordIncomplete at
  unfolding taken_as
  cut_off l = simp (lt-ltb (length rest) (total widths) l)

  whole : total widths ≤ length rest → taken_as at kind (some widths) rest ≡ given (found at kind widths rest)
  unfolding taken_as
  whole l = simp (le-ltb (length rest) (total widths) l)

-- a kind has widths exactly where it has a size
sizeless : (o : Option (List ℕ)) → Option.get_or (map (λ widths. 1 + total widths) o) 0 ≡ 0 → o ≡ none
sizeless none e = refl
sizeless (some widths) e = absurd (omega arith)

sized : (o : Option (List ℕ)) → (Option.get_or (map (λ widths. 1 + total widths) o) 0 ≡ 0 → ⊥) →
    (o ≡ some (Option.get_or o [])) × (Option.get_or (map (λ widths. 1 + total widths) o) 0 ≡ 1 + total (Option.get_or o []))
sized none e = absurd (e refl)
sized (some widths) e = (refl, refl)

module _ (bytes : List ℕ) (at : ℕ) where
  pub offset-refused : length bytes < at → taken_at bytes at ≡ refuse Reason.OffsetTooGreat (length bytes)
  unfolding taken_at
  offset-refused l = simp (lt-ltb (length bytes) at l)

  from : at ≤ length bytes → taken_at bytes at ≡ taken_from at (drop at bytes)
  unfolding taken_at
  from l = simp (le-ltb (length bytes) at l)

  pub missing-refused : at ≤ length bytes → length bytes ≤ at → taken_at bytes at ≡ refuse Reason.RecordIncomplete at
  unfolding taken_from
  missing-refused l m = from l ∙ ap (taken_from at) (drop_of_length-le bytes m)

  -- the widths are those that the layout has for the byte at the offset
  known_as : (o : Option (List ℕ)) → at < length bytes → lookup layout (get_or bytes at 0) ≡ o →
      taken_at bytes at ≡ taken_as at (get_or bytes at 0) o (drop (at + 1) bytes)
  unfolding taken_from
  known_as o l e =
      from (omega arith) ∙ ap (taken_from at) (drop-from bytes at l)
      ∙ ap (λ (p : Option (List ℕ)). taken_as at (get_or bytes at 0) p (drop (at + 1) bytes)) e

  pub unknown-refused : at < length bytes → size_of (get_or bytes at 0) ≡ 0 → taken_at bytes at ≡ refuse Reason.KindUnknown at
  unfolding taken_as
  unknown-refused l e = known_as none l (sizeless (lookup layout (get_or bytes at 0)) e)

  module _ (l : at < length bytes) (some_size : size_of (get_or bytes at 0) ≡ 0 → ⊥) where
    pub size_is : size_of (get_or bytes at 0) ≡ 1 + total (widths_of (get_or bytes at 0))
    size_is = (sized (lookup layout (get_or bytes at 0)) some_size).1

    is_known : lookup layout (get_or bytes at 0) ≡ some (widths_of (get_or bytes at 0))
    is_known = (sized (lookup layout (get_or bytes at 0)) some_size).0

    left : length (drop (at + 1) bytes) ≡ length bytes - (at + 1)
    left = length-drop (at + 1) bytes

    pub cut-refused : length bytes - at < size_of (get_or bytes at 0) → taken_at bytes at ≡ refuse Reason.RecordIncomplete at
    cut-refused cut =
        known_as (some (widths_of (get_or bytes at 0))) l is_known
        ∙ cut_off at (get_or bytes at 0) (widths_of (get_or bytes at 0)) (drop (at + 1) bytes) (omega (arith, left, size_is))

    pub record-given : size_of (get_or bytes at 0) ≤ length bytes - at →
        taken_at bytes at ≡ given (found at (get_or bytes at 0) (widths_of (get_or bytes at 0)) (drop (at + 1) bytes))
    record-given room =
        known_as (some (widths_of (get_or bytes at 0))) l is_known
        ∙ whole at (get_or bytes at 0) (widths_of (get_or bytes at 0)) (drop (at + 1) bytes) (omega (arith, left, size_is))

    -- the answer that holds the record's kind and fields and the offset behind it
    pub read-given : (k : ℕ) (fields : List ℕ) (size : ℕ) → size ≡ size_of (get_or bytes at 0) → size ≤ length bytes - at →
        k ≡ get_or bytes at 0 → fields ≡ fields_in (widths_of (get_or bytes at 0)) (drop (at + 1) bytes) →
        given (record { kind = k; fields = fields; next = at + size }) ≡ taken_at bytes at
    read-given k fields size e room kind body =
        let next : at + size ≡ at + (1 + total (widths_of (get_or bytes at 0))) = omega (arith, size_is) in
        (λ i. given (record { kind = kind i; fields = body i; next = next i })) ∙ sym (record-given (omega arith))

-- a record that was given lies whole in the bytes
pub record Whole (bytes : List ℕ) (at : ℕ) (t : Found) : Type 0 where
  pub inside : at < length bytes
  pub known : size_of (get_or bytes at 0) ≡ 1 + total (widths_of (get_or bytes at 0))
  pub room : at + (1 + total (widths_of (get_or bytes at 0))) ≤ length bytes
  pub is : t ≡ found at (get_or bytes at 0) (widths_of (get_or bytes at 0)) (drop (at + 1) bytes)

pub given-whole : (bytes : List ℕ) (at : ℕ) (t : Found) → taken_at bytes at ≡ given t → Whole bytes at t
given-whole bytes at t e =
    elim (dec_le at (length bytes)) [
      | no h ↦ absurd (given-not-refused (sym e ∙ offset-refused bytes at (omega arith)))
      | yes h ↦ (elim (dec_le (length bytes) at) [
        | yes m ↦ absurd (given-not-refused (sym e ∙ missing-refused bytes at h m))
        | no m ↦ (elim (ℕ_discrete (size_of (get_or bytes at 0)) 0) [
          | yes z ↦ absurd (given-not-refused (sym e ∙ unknown-refused bytes at (omega arith) z))
          | no z ↦ fitting (omega arith) z (dec_le (size_of (get_or bytes at 0)) (length bytes - at))
        ])
      ])
    ]
  where
    fitting : at < length bytes → (size_of (get_or bytes at 0) ≡ 0 → ⊥) →
        Dec (size_of (get_or bytes at 0) ≤ length bytes - at) → Whole bytes at t
    fitting l z (no cut) = absurd (given-not-refused (sym e ∙ cut-refused bytes at l z (omega arith)))
    fitting l z (yes room) =
        let size : size_of (get_or bytes at 0) ≡ 1 + total (widths_of (get_or bytes at 0)) = size_is bytes at l z in
        let answer : given t ≡ given (found at (get_or bytes at 0) (widths_of (get_or bytes at 0)) (drop (at + 1) bytes)) =
        sym e ∙ record-given bytes at l z room in
        record { inside = l; known = size; room = omega arith; is = cc }

-- it has a byte or more, and its end lies in the bytes
pub given-onward : (bytes : List ℕ) (at : ℕ) (t : Found) → taken_at bytes at ≡ given t → (at < t.next) × (t.next ≤ length bytes)
given-onward bytes at t e =
    let whole = given-whole bytes at t e in
    omega (arith, ap (λ (u : Found). u.next) whole.is, whole.room)
