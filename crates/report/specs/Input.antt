-- Keysheet's input (01, 'The keysheet program and the host'): one byte row count, one byte column count, the row and then the
-- column coordinates, four bytes each, the key to the end.
use Rattle.std.specs.Prelude.{ℕ, zero, suc, ◌+◌, ◌*◌, List, [], ◌∷◌, get_or, take, drop}
use Rattle.records.specs.Layout.{number_in}

abbrev pub row_count : List ℕ → ℕ
row_count input = get_or input 0 0

abbrev pub column_count : List ℕ → ℕ
column_count input = get_or input 1 0

-- so many numbers of four bytes with which some bytes begin
abbrev pub numbers_in : ℕ → List ℕ → List ℕ
numbers_in zero bytes = []
numbers_in (suc count) bytes = number_in (take 4 bytes) ∷ numbers_in count (drop 4 bytes)

abbrev pub rows_in : List ℕ → List ℕ
rows_in input = numbers_in (row_count input) (drop 2 input)

abbrev pub columns_in : List ℕ → List ℕ
columns_in input = numbers_in (column_count input) (drop (2 + 4 * row_count input) input)

-- the length of the two counts and their coordinates
abbrev pub point_length : List ℕ → ℕ
point_length input = 2 + 4 * (row_count input + column_count input)

-- the key: all that is behind them
abbrev pub key_in : List ℕ → List ℕ
key_in input = drop (point_length input) input
