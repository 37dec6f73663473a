-- What a pass over an accepted key goes by. The contracts of inner functions cite it; no public promise rests on it.
use Rattle.std.specs.Prelude.{ℕ, ◌+◌, ◌≤◌, ◌<◌, List, ◌≡◌, length, get_or}
use Rattle.refusal.specs.Outcome.{given}
use Rattle.records.specs.declared.Shape.{Shape}
use Rattle.arrays.specs.Arrays.{Entries, cells, calls, Array, array_at}
use Rattle.key.specs.Check.{checked_key}
use Rattle.key.specs.Index.{starts_of}
use Rattle.key.specs.KeyArrays.{key_arrays}
use Rattle.key.specs.declared.Counts.{Counts}

-- a key that is accepted
abbrev pub IsAccepted : List ℕ → Type 0
IsAccepted key = (counts : Counts) × (checked_key key ≡ given counts)

-- an accepted key, with a table whose first places hold the offsets of its arrays
pub record Indexed (key starts : List ℕ) : Type 0 where
  pub counts : Counts
  pub accepted : checked_key key ≡ given counts
  pub room : length (key_arrays key) ≤ length starts
  pub offsets : (i : ℕ) → i < length (key_arrays key) → get_or starts i 0 ≡ get_or (starts_of key) i 0

-- the shape of an array
abbrev pub shape_at : List Array → ℕ → Shape
shape_at arrays i = record { rows = (array_at arrays i).row_bits; columns = (array_at arrays i).column_bits }

-- how many row bits and column bits an array has together
abbrev pub bits_at : List Array → ℕ → ℕ
bits_at arrays i = (array_at arrays i).row_bits + (array_at arrays i).column_bits

-- the entries of a sparse array, and those of a recursive one
abbrev pub Sparse : Entries → Type 0
Sparse (cells list) = Unit {0}
Sparse (calls list) = ⊥

abbrev pub Recursive : Entries → Type 0
Recursive (cells list) = ⊥
Recursive (calls list) = Unit {0}
