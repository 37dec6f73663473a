-- What the records before a record say: the head's edition and shape, the arrays that they open, and how many cells and calls
-- they are.
use Rattle.std.specs.Prelude.{ℕ, ◌+◌, ◌-◌, Bool, cond, eqb, length, get_or}
use mathlib.Core.List.{List, [], ◌∷◌, flat_map}
use Rattle.records.specs.Kinds.{kind_of}
use Rattle.records.specs.declared.Record.{Record}
use Rattle.records.specs.declared.Shape.{Shape}
use Rattle.rules.specs.declared.Opening.{Opening}

-- the opening of an array that a record is, if it is one: its kind, 02 sparse or 03 recursive, and the array's shape
abbrev pub opening_in : Record → List Opening
opening_in (Record.Head shape) = []
opening_in (Record.Sparse shape) = record { kind = 0x02; shape = shape } ∷ []
opening_in (Record.Recursive shape) = record { kind = 0x03; shape = shape } ∷ []
opening_in (Record.Cell cell) = []
opening_in (Record.Call call) = []
opening_in Record.End = []
opening_in (Record.ScaledHead shape) = []
opening_in (Record.ScaledCall call) = []

-- the openings among some records: array i is opened by the one numbered i
abbrev pub opened : List Record → List Opening
opened records = flat_map opening_in records

-- the opening numbered i; of no kind where there is none
abbrev pub opening_at : List Opening → ℕ → Opening
opening_at openings i = get_or openings i (record { kind = 0; shape = record { rows = 0; columns = 0 } })

-- the array that is open behind some openings: the last; of no kind where there is none
abbrev pub open_now : List Opening → Opening
open_now openings = opening_at openings (length openings - 1)

-- the shape that a record holds; 0 and 0 where it holds none
abbrev pub shape_in : Record → Shape
shape_in (Record.Head shape) = shape
shape_in (Record.Sparse shape) = shape
shape_in (Record.Recursive shape) = shape
shape_in (Record.Cell cell) = record { rows = 0; columns = 0 }
shape_in (Record.Call call) = record { rows = 0; columns = 0 }
shape_in Record.End = record { rows = 0; columns = 0 }
shape_in (Record.ScaledHead shape) = shape
shape_in (Record.ScaledCall call) = record { rows = 0; columns = 0 }

-- the first record; an end where there is none
abbrev pub first_of : List Record → Record
first_of records = get_or records 0 Record.End

-- the head's shape, n and n': that of the first record
abbrev pub head_of : List Record → Shape
head_of records = shape_in (first_of records)

-- does a record begin a key of edition 2?
abbrev pub is_scaled_head : Record → Bool
is_scaled_head r = eqb (kind_of r) 0x07

-- is the key of edition 2? The first record says it.
abbrev pub is_scaled : List Record → Bool
is_scaled records = is_scaled_head (first_of records)

-- how many of some records are of a kind
unfoldable pub count_of : ℕ → List Record → ℕ
count_of kind [] = 0
count_of kind (r ∷ records) = cond (eqb (kind_of r) kind) 1 0 + count_of kind records

-- how many of some records are calls, of either edition
abbrev pub call_count : List Record → ℕ
call_count records = count_of 0x05 records + count_of 0x08 records
