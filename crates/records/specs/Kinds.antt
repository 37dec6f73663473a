-- The kind and the fields of each of the eight cases of a record, in 01's order and then E9's, and the record's bytes.
use Rattle.std.specs.Prelude.{ℕ, cond, eqb, get_or}
use mathlib.Core.List.{List, [], ◌∷◌, flat_map}
use Rattle.std.proofs.Math.Option
use Rattle.records.specs.Layout.{layout, lookup, field_bytes}
use Rattle.records.specs.declared.Call.{Call}
use Rattle.records.specs.declared.Cell.{Cell}
use Rattle.records.specs.declared.Record.{Record}
use Rattle.records.specs.declared.ScaledCall.{ScaledCall}
use Rattle.records.specs.declared.Shape.{Shape}

abbrev pub kind_of : Record → ℕ
kind_of (Record.Head shape) = 0x01
kind_of (Record.Sparse shape) = 0x02
kind_of (Record.Recursive shape) = 0x03
kind_of (Record.Cell cell) = 0x04
kind_of (Record.Call call) = 0x05
kind_of Record.End = 0x06
kind_of (Record.ScaledHead shape) = 0x07
kind_of (Record.ScaledCall call) = 0x08

abbrev pub shape_fields : Shape → List ℕ
shape_fields shape = shape.rows ∷ shape.columns ∷ []

abbrev pub cell_fields : Cell → List ℕ
cell_fields cell = cell.row ∷ cell.column ∷ cell.a ∷ cell.b ∷ cell.c ∷ []

abbrev pub call_fields : Call → List ℕ
call_fields call = call.id ∷ call.down ∷ call.right ∷ []

abbrev pub scaled_call_fields : ScaledCall → List ℕ
scaled_call_fields call = call.id ∷ call.down ∷ call.right ∷ call.factor ∷ []

-- a call of edition 2 without its factor
abbrev pub without_factor : ScaledCall → Call
without_factor call = record { id = call.id; down = call.down; right = call.right }

-- a call of edition 1 with a factor
abbrev pub with_factor : ℕ → Call → ScaledCall
with_factor factor call = record { id = call.id; down = call.down; right = call.right; factor = factor }

abbrev pub fields_of : Record → List ℕ
fields_of (Record.Head shape) = shape_fields shape
fields_of (Record.Sparse shape) = shape_fields shape
fields_of (Record.Recursive shape) = shape_fields shape
fields_of (Record.Cell cell) = cell_fields cell
fields_of (Record.Call call) = call_fields call
fields_of Record.End = []
fields_of (Record.ScaledHead shape) = shape_fields shape
fields_of (Record.ScaledCall call) = scaled_call_fields call

-- the widths of a kind's fields; none where there is no such kind
abbrev pub widths_of : ℕ → List ℕ
widths_of kind = Option.get_or (lookup layout kind) []

-- a record's bytes: its kind, and its fields in their widths
abbrev pub encoded : Record → List ℕ
encoded r = kind_of r ∷ field_bytes (widths_of (kind_of r)) (fields_of r)

-- the bytes of some records, one behind the other
abbrev pub bytes_of_all : List Record → List ℕ
bytes_of_all records = flat_map encoded records

abbrev pub shape_of : List ℕ → Shape
shape_of fields = record { rows = get_or fields 0 0; columns = get_or fields 1 0 }

abbrev pub cell_of : List ℕ → Cell
cell_of fields =
    record { row = get_or fields 0 0; column = get_or fields 1 0; a = get_or fields 2 0; b = get_or fields 3 0; c = get_or fields 4 0 }

abbrev pub call_of : List ℕ → Call
call_of fields = record { id = get_or fields 0 0; down = get_or fields 1 0; right = get_or fields 2 0 }

abbrev pub scaled_call_of : List ℕ → ScaledCall
scaled_call_of fields =
    record { id = get_or fields 0 0; down = get_or fields 1 0; right = get_or fields 2 0; factor = get_or fields 3 0 }

-- the record of a kind and its fields, the inverse of `kind_of` and `fields_of`; an end where there is no such kind
unfoldable pub record_of : ℕ → List ℕ → Record
record_of kind fields =
    cond (eqb kind 0x01) (Record.Head (shape_of fields))
    (cond (eqb kind 0x02) (Record.Sparse (shape_of fields))
    (cond (eqb kind 0x03) (Record.Recursive (shape_of fields))
    (cond (eqb kind 0x04) (Record.Cell (cell_of fields))
    (cond (eqb kind 0x05) (Record.Call (call_of fields))
    (cond (eqb kind 0x07) (Record.ScaledHead (shape_of fields))
    (cond (eqb kind 0x08) (Record.ScaledCall (scaled_call_of fields))
    Record.End))))))
