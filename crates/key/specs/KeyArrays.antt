-- The arrays of a key (01, 'An accepted key'; 02, E9): an opening, and the cells or calls directly behind it.
use Rattle.std.specs.Prelude.{ℕ, Bool, List, [], ◌∷◌}
use Rattle.records.specs.declared.Call.{Call as CallRecord}
use Rattle.records.specs.declared.Cell.{Cell as CellRecord}
use Rattle.records.specs.declared.Record.{Record}
use Rattle.records.specs.declared.ScaledCall.{ScaledCall}
use Rattle.arrays.specs.Arrays.{Cell, Call, cells, calls, Array}
use Rattle.key.specs.Before.{is_scaled}
use Rattle.key.specs.Reading.{records_in}

abbrev pub cell_in : CellRecord → Cell
cell_in c = record { row = c.row; column = c.column; values = record { a = c.a; b = c.b; c = c.c } }

-- a call of edition 1 has the factor 1
abbrev pub call_in : CallRecord → Call
call_in c = record { id = c.id; down = c.down; right = c.right; factor = 1 }

abbrev pub scaled_call_in : ScaledCall → Call
scaled_call_in c = record { id = c.id; down = c.down; right = c.right; factor = c.factor }

-- the cells with which some records begin
unfoldable pub cells_first : List Record → List Cell
cells_first [] = []
cells_first (Record.Head shape ∷ records) = []
cells_first (Record.Sparse shape ∷ records) = []
cells_first (Record.Recursive shape ∷ records) = []
cells_first (Record.Cell cell ∷ records) = cell_in cell ∷ cells_first records
cells_first (Record.Call call ∷ records) = []
cells_first (Record.End ∷ records) = []
cells_first (Record.ScaledHead shape ∷ records) = []
cells_first (Record.ScaledCall call ∷ records) = []

-- the calls with which some records begin
unfoldable pub calls_first : List Record → List Call
calls_first [] = []
calls_first (Record.Head shape ∷ records) = []
calls_first (Record.Sparse shape ∷ records) = []
calls_first (Record.Recursive shape ∷ records) = []
calls_first (Record.Cell cell ∷ records) = []
calls_first (Record.Call call ∷ records) = call_in call ∷ calls_first records
calls_first (Record.End ∷ records) = []
calls_first (Record.ScaledHead shape ∷ records) = []
calls_first (Record.ScaledCall call ∷ records) = scaled_call_in call ∷ calls_first records

-- the arrays that some records open, in their order
unfoldable pub arrays_of : List Record → List Array
arrays_of [] = []
arrays_of (Record.Head shape ∷ records) = arrays_of records
arrays_of (Record.Sparse shape ∷ records) =
    record { row_bits = shape.rows; column_bits = shape.columns; entries = cells (cells_first records) } ∷ arrays_of records
arrays_of (Record.Recursive shape ∷ records) =
    record { row_bits = shape.rows; column_bits = shape.columns; entries = calls (calls_first records) } ∷ arrays_of records
arrays_of (Record.Cell cell ∷ records) = arrays_of records
arrays_of (Record.Call call ∷ records) = arrays_of records
arrays_of (Record.End ∷ records) = arrays_of records
arrays_of (Record.ScaledHead shape ∷ records) = arrays_of records
arrays_of (Record.ScaledCall call ∷ records) = arrays_of records

-- a key's arrays are those of its records
abbrev pub key_arrays : List ℕ → List Array
key_arrays key = arrays_of (records_in key)

-- is a key of edition 2?
abbrev pub key_scaled : List ℕ → Bool
key_scaled key = is_scaled (records_in key)
