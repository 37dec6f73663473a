-- The key of some arrays in either edition: the records that 01's 'An accepted key' asks for (02, E9 for edition 2), and their
-- bytes. `scaled` says whether it is of edition 2.
use Rattle.std.specs.Prelude.{ℕ, Bool, true, false, ◌≡◌}
use mathlib.Core.List.{List, [], ◌∷◌, ◌++◌, map, flat_map}
use Rattle.records.specs.Kinds.{bytes_of_all}
use Rattle.records.specs.declared.Record.{Record}
use Rattle.arrays.specs.Arrays.{Cell, Call, Entries, cells, calls, Array}
use Rattle.arrays.specs.WellFormed.{Each}

abbrev pub cell_record : Cell → Record
cell_record c =
    Record.Cell (record { row = c.row; column = c.column; a = c.values.a; b = c.values.b; c = c.values.c })

-- a call; edition 1 has no place for its factor
abbrev pub call_record : Bool → Call → Record
call_record false c = Record.Call (record { id = c.id; down = c.down; right = c.right })
call_record true c = Record.ScaledCall (record { id = c.id; down = c.down; right = c.right; factor = c.factor })

abbrev pub opening_record : ℕ → ℕ → Entries → Record
opening_record k k' (cells list) = Record.Sparse (record { rows = k; columns = k' })
opening_record k k' (calls list) = Record.Recursive (record { rows = k; columns = k' })

abbrev pub entry_records : Bool → Entries → List Record
entry_records scaled (cells list) = map cell_record list
entry_records scaled (calls list) = map (call_record scaled) list

abbrev pub head_record : Bool → ℕ → ℕ → Record
head_record false n n' = Record.Head (record { rows = n; columns = n' })
head_record true n n' = Record.ScaledHead (record { rows = n; columns = n' })

-- an array's records: its opening and its entries
abbrev pub array_records : Bool → Array → List Record
array_records scaled array =
    opening_record array.row_bits array.column_bits array.entries ∷ entry_records scaled array.entries

-- those of some arrays, one behind the other
abbrev pub arrays_records : Bool → List Array → List Record
arrays_records scaled arrays = flat_map (array_records scaled) arrays

-- the records of a key whose head has n row bits and n' column bits: the head, the arrays and the end
abbrev pub key_records : Bool → ℕ → ℕ → List Array → List Record
key_records scaled n n' arrays = head_record scaled n n' ∷ (arrays_records scaled arrays ++ (Record.End ∷ []))

abbrev pub key_bytes : Bool → ℕ → ℕ → List Array → List ℕ
key_bytes scaled n n' arrays = bytes_of_all (key_records scaled n n' arrays)

-- ---- which arrays have a key in an edition

-- a factor that a call of an edition can have: in edition 1 it is 1
abbrev pub FactorIn : Bool → ℕ → Type 0
FactorIn false factor = factor ≡ 1
FactorIn true factor = Unit {0}

abbrev pub EntriesIn : Bool → Entries → Type 0
EntriesIn scaled (cells list) = Unit {0}
EntriesIn scaled (calls list) = Each (λ call. FactorIn scaled call.factor) list

-- all arrays in edition 2, and in edition 1 those all of whose calls have the factor 1
abbrev pub InEdition : Bool → List Array → Type 0
InEdition scaled arrays = Each (λ array. EntriesIn scaled array.entries) arrays
