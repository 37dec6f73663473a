-- How many cells and how many calls some arrays have.
use Rattle.std.specs.Prelude.{ℕ, ◌+◌, List, [], ◌∷◌, length}
use Rattle.arrays.specs.Arrays.{Entries, cells, calls, Array}

abbrev pub cells_in : Entries → ℕ
cells_in (cells list) = length list
cells_in (calls list) = 0

abbrev pub calls_in : Entries → ℕ
calls_in (cells list) = 0
calls_in (calls list) = length list

-- the sum over some arrays of a number that their entries have
abbrev pub total_of : (Entries → ℕ) → List Array → ℕ
total_of number [] = 0
total_of number (array ∷ arrays) = number array.entries + total_of number arrays
