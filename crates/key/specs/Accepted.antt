-- What it means that a key is accepted: it is the key of well_formed arrays in its edition.
use Rattle.std.specs.Prelude.{ℕ, ◌≤◌, ◌<◌, List, ◌≡◌, length, get_or}
use Rattle.arrays.specs.Arrays.{Array}
use Rattle.arrays.specs.Placing.{blocks}
use Rattle.arrays.specs.Totals.{cells_in, calls_in, total_of}
use Rattle.arrays.specs.WellFormed.{WellFormed, LastOfShape}
use Rattle.key.specs.Encoding.{key_records, key_bytes, InEdition}
use Rattle.key.specs.Index.{starts_of, Indexes}
use Rattle.key.specs.KeyArrays.{key_arrays, key_scaled}
use Rattle.key.specs.Reading.{records_in}
use Rattle.key.specs.declared.Counts.{Counts}

-- the counts of some arrays under a head of n row bits and n' column bits
abbrev pub array_counts : ℕ → ℕ → List Array → Counts
array_counts n n' arrays =
    record {
      arrays = length arrays;
      cells = total_of cells_in arrays;
      calls = total_of calls_in arrays;
      rows = n;
      columns = n';
    }

-- a key that is accepted with these counts
pub record Accepted (key : List ℕ) (counts : Counts) : Type 0 where
  pub at_most_65536 : length key ≤ 65536
  -- its arrays are well formed, 1 to 1,024 of them, and the last has the head's shape
  pub well_formed : WellFormed blocks blocks counts.rows counts.columns (key_arrays key)
  pub last_of_shape : LastOfShape counts.rows counts.columns (key_arrays key)
  pub at_most_1024 : length (key_arrays key) ≤ 1024
  -- the counts are theirs
  pub counted : counts ≡ array_counts counts.rows counts.columns (key_arrays key)
  -- its records are a head, those of its arrays and an end, all of its edition, and its bytes are those of its records
  pub in_edition : InEdition (key_scaled key) (key_arrays key)
  pub records : records_in key ≡ key_records (key_scaled key) counts.rows counts.columns (key_arrays key)
  pub bytes : ((i : ℕ) → get_or key i 0 < 256) → key ≡ key_bytes (key_scaled key) counts.rows counts.columns (key_arrays key)
  -- the index finds each array
  pub index : Indexes key (starts_of key) (key_arrays key)
