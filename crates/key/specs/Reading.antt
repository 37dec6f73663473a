-- The records of a key: taken one behind the other, from its first byte on (01, 'An accepted key').
use Rattle.std.specs.Prelude.{ℕ, zero, suc, Bool, cond, List, [], ◌∷◌, map, eqb, length}
use Rattle.refusal.specs.Number.{number_of}
use Rattle.refusal.specs.Outcome.{Outcome, given, refused}
use Rattle.refusal.specs.declared.Reason.{Reason}
use Rattle.records.specs.Kinds.{kind_of, record_of}
use Rattle.records.specs.Take.{Found, taken_at}
use Rattle.records.specs.declared.Record.{Record}

-- a record, its offset, and the offset behind it
pub record Located : Type 0 where
  pub item : Record
  pub at : ℕ
  pub next : ℕ

-- located records, and how they end
pub data Reading : Type 0 where
  -- behind an end record: what follows is not read
  ended : Reading
  -- where no record can be taken: the number and the place of that refusal
  stopped : ℕ → ℕ → Reading
  -- a record, and what is read behind it
  located : Located → Reading → Reading

-- is a record an end?
abbrev pub is_end : Record → Bool
is_end r = eqb (kind_of r) 0x06

-- what is read behind a record: nothing where that is an end
abbrev pub behind : Record → Reading → Reading
behind r rest = cond (is_end r) ended rest

-- what is read at an offset, by what taking a record there answers; `rest` is what is read from a later offset on
unfoldable pub read_at : ℕ → Outcome Found → (ℕ → Reading) → Reading
read_at at (refused number place) rest = stopped number place
read_at at (given found) rest =
    located
    (record { item = record_of found.kind found.fields; at = at; next = found.next })
    (behind (record_of found.kind found.fields) (rest found.next))

-- what is read from an offset on, in so many steps
unfoldable pub read_from : ℕ → List ℕ → ℕ → Reading
read_from zero key at = stopped (number_of Reason.RecordIncomplete) at
read_from (suc steps) key at = read_at at (taken_at key at) (read_from steps key)

-- A record has a byte or more, so that a step for each byte and one more read the whole key; more of them read the same
-- (`steps-enough` and `reading-unfolds` in proofs/ReadingSteps.antt).
abbrev pub reading_of : List ℕ → Reading
reading_of key = read_from (suc (length key)) key 0

-- the located records of a reading
unfoldable pub located_in : Reading → List Located
located_in ended = []
located_in (stopped number place) = []
located_in (located x rest) = x ∷ located_in rest

-- the records alone
abbrev pub items : List Located → List Record
items = map (λ x. x.item)

-- the records of a key
abbrev pub records_in : List ℕ → List Record
records_in key = items (located_in (reading_of key))
