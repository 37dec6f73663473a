-- A key moved into the other edition (02, E9): the copy, what the call answers, and every byte of the buffer afterwards.
use Rattle.std.specs.Prelude.{Result, ℕ, Bool, false, cond, not, eqb, ltb, length}
use mathlib.Core.List.{List, [], ◌∷◌, map, flat_map}
use Rattle.refusal.specs.Outcome.{Outcome, given, refused, refuse, outcome, and_then}
use Rattle.refusal.specs.declared.Reason.{Reason}
use Rattle.refusal.specs.declared.Refusal.{Refusal}
use Rattle.records.specs.Kinds.{with_factor, without_factor, bytes_of_all}
use Rattle.records.specs.Put.{overwritten}
use Rattle.records.specs.declared.Record.{Record}
use Rattle.key.specs.Check.{checked_key}
use Rattle.key.specs.Reading.{Located, reading_of, located_in, records_in}

-- what is answered: the copy's length
abbrev pub copied_outcome : Result ℕ Refusal → Outcome ℕ
copied_outcome = outcome

-- a record in the other edition: a head is the other head, a call gets the factor 1 or loses its factor, and all others are as they were
abbrev pub moved_record : Record → Record
moved_record (Record.Head shape) = Record.ScaledHead shape
moved_record (Record.Sparse shape) = Record.Sparse shape
moved_record (Record.Recursive shape) = Record.Recursive shape
moved_record (Record.Cell cell) = Record.Cell cell
moved_record (Record.Call call) = Record.ScaledCall (with_factor 1 call)
moved_record Record.End = Record.End
moved_record (Record.ScaledHead shape) = Record.Head shape
moved_record (Record.ScaledCall call) = Record.Call (without_factor call)

-- the key in the edition that its head isn't
abbrev pub moved_key : List ℕ → List ℕ
moved_key key = bytes_of_all (map moved_record (records_in key))

-- is a record a call with a factor other than 1?
abbrev pub has_other_factor : Record → Bool
has_other_factor (Record.Head shape) = false
has_other_factor (Record.Sparse shape) = false
has_other_factor (Record.Recursive shape) = false
has_other_factor (Record.Cell cell) = false
has_other_factor (Record.Call call) = false
has_other_factor Record.End = false
has_other_factor (Record.ScaledHead shape) = false
has_other_factor (Record.ScaledCall call) = not (eqb call.factor 1)

-- the offsets of the calls among some records whose factor isn't 1
abbrev pub other_factors_in : List Located → List ℕ
other_factors_in records = flat_map (λ x. cond (has_other_factor x.item) (x.at ∷ []) []) records

-- those of a key, which edition 1 has no place for
abbrev pub other_factors : List ℕ → List ℕ
other_factors key = other_factors_in (located_in (reading_of key))

-- ---- the refusals behind check's own, each of which passes the copy's length on

-- 55: a factor other than 1 on the way back, at its call; the first of them counts
unfoldable pub factors_judged : List ℕ → ℕ → Outcome ℕ
factors_judged [] copy = given copy
factors_judged (at ∷ offsets) copy = refuse Reason.FactorNotOne at

-- 56: a moved key over 65,536 bytes
unfoldable pub length_judged : ℕ → Outcome ℕ
length_judged copy = cond (ltb 65536 copy) (refuse Reason.MovedTooLong copy) (given copy)

-- 32: a buffer of so many bytes, shorter than the copy
unfoldable pub room_judged : ℕ → ℕ → Outcome ℕ
room_judged room copy = cond (ltb room copy) (refuse Reason.BufferTooShort copy) (given copy)

-- 55 comes first, then 56, then 32; else the answer is the copy's length
abbrev pub copy_judged : List ℕ → ℕ → ℕ → Outcome ℕ
copy_judged offsets copy room = and_then (and_then (factors_judged offsets copy) length_judged) (room_judged room)

-- check's refusals come before them
abbrev pub move_judged : List ℕ → ℕ → Outcome ℕ
move_judged key room = and_then (checked_key key) (λ counts. copy_judged (other_factors key) (length (moved_key key)) room)

-- ---- the call

-- an answer, and the buffer as it is then
pub record Moving : Type 0 where
  pub answer : Outcome ℕ
  pub buffer : List ℕ

-- A refused call leaves the buffer as it was. Else the copy stands at its start, and the bytes behind it stay.
unfoldable pub written : Outcome ℕ → List ℕ → List ℕ → Moving
written (refused number place) copy buffer = record { answer = refused number place; buffer = buffer }
written (given answered) copy buffer = record { answer = given answered; buffer = overwritten copy buffer 0 }

-- the key copied to the start of the buffer, into the edition that its head isn't
abbrev pub moving : List ℕ → List ℕ → Moving
moving key buffer = written (move_judged key (length buffer)) (moved_key key) buffer
