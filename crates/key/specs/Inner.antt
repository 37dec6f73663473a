-- What the contracts of inner functions cite: it mirrors the code. No public promise rests on it.
use Rattle.refusal.specs.declared.Refusal.{Refusal}
use Rattle.std.specs.Prelude.{Result, Ok}
use Rattle.std.specs.Prelude.{ℕ, min, ◌+◌, ◌*◌, ◌/◌, ◌≤◌, ◌<◌, Bool, true, false, ◌||◌, List, ◌++◌, map, ◌≡◌, eqb, length, get_or, take}
use Rattle.records.specs.Kinds.{kind_of, encoded}
use Rattle.records.specs.Take.{taken_outcome, taken_at}
use Rattle.records.specs.declared.Record.{Record}
use Rattle.records.specs.declared.Shape.{Shape}
use Rattle.arrays.specs.WellFormed.{Each}
use Rattle.rules.specs.Inner.{held_to, AllKept, shape_read, Narrow, call_rules_in, scaled_call_rules_in}
use Rattle.rules.specs.Rules.{Rule, head_rules, opening_rules, cell_rules, end_rules}
use Rattle.rules.specs.declared.Opening.{Opening}
use Rattle.key.specs.Before.{opened, opening_at, open_now, head_of, is_scaled, count_of, call_count}
use Rattle.key.specs.Check.{rules_behind, judged, checked_key}
use Rattle.key.specs.Index.{Runs, starts_in}
use Rattle.key.specs.Reading.{Located, is_end, read_from, reading_of, located_in, items}
use Rattle.key.specs.declared.Counts.{Counts}
use Rattle.key.specs.declared.seen.Seen.{Seen}

-- ---- the shapes of the arrays so far

-- behind an opening's kind, at an offset, stands a shape
abbrev pub Stands : List ℕ → ℕ → Shape → Type 0
Stands key at shape = (at + 2 < length key) × (shape_read key at ≡ shape)

-- at the offset of each place stands in the key the shape of the opening with its number
abbrev pub ShapesStand : List ℕ → List ℕ → List Opening → Type 0
ShapesStand key starts openings = (i : ℕ) → i < length openings → Stands key (get_or starts i 0) (opening_at openings i).shape

-- the rules of a record, by what was seen before it and the offsets of the arrays so far
abbrev pub rules_seen : Seen → List ℕ → List ℕ → Record → List Rule
rules_seen seen key starts (Record.Head shape) = head_rules seen.first shape
rules_seen seen key starts (Record.Sparse shape) = opening_rules seen.first seen.head seen.arrays shape
rules_seen seen key starts (Record.Recursive shape) = opening_rules seen.first seen.head seen.arrays shape
rules_seen seen key starts (Record.Cell cell) = cell_rules seen.array cell
rules_seen seen key starts (Record.Call call) = call_rules_in key starts seen.scaled seen.array seen.arrays call
rules_seen seen key starts Record.End = end_rules seen.head seen.arrays seen.array
rules_seen seen key starts (Record.ScaledHead shape) = head_rules seen.first shape
rules_seen seen key starts (Record.ScaledCall call) =
    scaled_call_rules_in key starts seen.scaled seen.array seen.arrays call

-- the verdict on a record whose bytes are those from `at` to `next`
abbrev pub verdict_on : Seen → List ℕ → List ℕ → ℕ → ℕ → Record → (Result (Unit {0}) Refusal)
verdict_on seen key starts at next item =
    held_to (held_to (Ok tt) at (rules_seen seen key starts item)) next (rules_behind item next (length key))

-- does a record open an array or end the key?
abbrev pub opens_or_ends : Record → Bool
opens_or_ends r = eqb (kind_of r) 0x02 || eqb (kind_of r) 0x03 || is_end r

-- a record is an entry of an array: a cell or a call
abbrev pub IsEntry : Record → Type 0
IsEntry (Record.Head shape) = ⊥
IsEntry (Record.Sparse shape) = ⊥
IsEntry (Record.Recursive shape) = ⊥
IsEntry (Record.Cell cell) = Unit {0}
IsEntry (Record.Call call) = Unit {0}
IsEntry Record.End = ⊥
IsEntry (Record.ScaledHead shape) = ⊥
IsEntry (Record.ScaledCall call) = Unit {0}

-- what is seen of the records before
abbrev pub seen_in : List Record → Seen
seen_in before =
    record {
      first = eqb (length before) 0;
      scaled = is_scaled before;
      head = head_of before;
      array = open_now (opened before);
      arrays = length (opened before);
      cells = count_of 0x04 before;
      calls = call_count before;
    }

-- what is seen behind an array's opening
abbrev pub opening : Seen → ℕ → Shape → Seen
opening seen kind shape =
    record {
      first = false;
      scaled = seen.scaled;
      head = seen.head;
      array = record { kind = kind; shape = shape };
      arrays = seen.arrays + 1;
      cells = seen.cells;
      calls = seen.calls;
    }

-- what is seen behind other records, which change the edition, the head's shape and the counts of cells and calls alone
abbrev pub passed : Seen → Bool → Shape → ℕ → ℕ → Seen
passed seen scaled head cells calls =
    record {
      first = false;
      scaled = scaled;
      head = head;
      array = seen.array;
      arrays = seen.arrays;
      cells = cells;
      calls = calls;
    }

-- what is seen behind a record
abbrev pub after : Seen → Record → Seen
after seen (Record.Head shape) = passed seen false shape seen.cells seen.calls
after seen (Record.Sparse shape) = opening seen 0x02 shape
after seen (Record.Recursive shape) = opening seen 0x03 shape
after seen (Record.Cell cell) = passed seen seen.scaled seen.head (seen.cells + 1) seen.calls
after seen (Record.Call call) = passed seen seen.scaled seen.head seen.cells (seen.calls + 1)
after seen Record.End = passed seen seen.scaled seen.head seen.cells seen.calls
after seen (Record.ScaledHead shape) = passed seen true shape seen.cells seen.calls
after seen (Record.ScaledCall call) = passed seen seen.scaled seen.head seen.cells (seen.calls + 1)

-- the counts of what was seen
abbrev pub counts_seen : Seen → Counts
counts_seen seen =
    record {
      arrays = seen.arrays;
      cells = seen.cells;
      calls = seen.calls;
      rows = seen.head.rows;
      columns = seen.head.columns;
    }

-- ---- the walk

-- What holds where the walk over a key's records stands, before the record at `at`: the records before it are `past`, they keep
-- their rules, their openings are noted, and the rest is still to be read, in so many steps.
pub record Here (key starts : List ℕ) (seen : Seen) (at : ℕ) : Type 0 where
  pub past : List Located
  pub steps : ℕ
  pub within : at ≤ length key
  pub enough : length key < at + steps
  pub few : length past ≤ at
  pub arrays_most : length (opened (items past)) ≤ 1024
  pub spaced : 3 * length (opened (items past)) ≤ at
  pub seen_is : seen ≡ seen_in (items past)
  pub narrow_head : Narrow seen.head
  pub narrow_array : Narrow seen.array.shape
  pub room : min 1024 (length key / 3) ≤ length starts
  pub shapes : ShapesStand key starts (opened (items past))
  pub offsets_hold : take (length (opened (items past))) starts ≡ starts_in past
  pub read : located_in (reading_of key) ≡ past ++ located_in (read_from steps key at)
  pub same : checked_key key ≡ judged (length key) (items past) (read_from steps key at)

-- of the records that may stand at an offset of a key only those of some kinds can keep their rules
abbrev pub Only : (Record → Bool) → List ℕ → List ℕ → Seen → ℕ → Type 0
Only kinds key starts seen at =
    (item : Record) (next : ℕ) → taken_at key at ≡ taken_outcome (Ok (item, next)) →
    AllKept (rules_seen seen key starts item) → kinds item ≡ true

-- at an offset of a key stands an entry of a kind that keeps its rules
pub record Passes {A : Type 0} (key : List ℕ) (item : A → Record) (rules : A → List Rule) (at : ℕ) : Type 0 where
  pub entry : A
  pub taken : taken_at key at ≡ taken_outcome (Ok ((item entry), (at + length (encoded (item entry)))))
  pub kept : AllKept (rules entry)

-- at an offset of a key stands no entry of a kind that keeps its rules
abbrev pub Fails : {A : Type 0} → List ℕ → (A → Record) → (A → List Rule) → ℕ → Type 0
Fails {A = A} key item rules at =
    (entry : A) (next : ℕ) → taken_at key at ≡ taken_outcome (Ok ((item entry), next)) → AllKept (rules entry) → ⊥

-- what an answer says of the entry at an offset
abbrev pub Tried : {A : Type 0} → Bool → List ℕ → (A → Record) → (A → List Rule) → ℕ → Type 0
Tried true key item rules at = Passes key item rules at
Tried false key item rules at = Fails key item rules at

-- Entries of one kind that stand one behind the other in a key, from an offset to another, and keep their rules.
pub record Run {A : Type 0} (key : List ℕ) (item : A → Record) (rules : A → List Rule) (from to : ℕ) : Type 0 where
  pub entries : List A
  pub runs : Runs key from (map item entries) to
  pub kept : Each (λ x. AllKept (rules x)) entries
