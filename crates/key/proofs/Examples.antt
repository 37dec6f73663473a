-- The key of 01's keysheet input, its arrays and where they begin, and a key for each refusal. Number 6 needs more than 3,000
-- bytes, and the test program has it.
use Prim.Native.Nat.{ℕ}
use mathlib.Core.Bool.{true, false}
use mathlib.Core.List.{List, [], ◌∷◌, ◌++◌, map}
use mathlib.Core.Path.{◌≡◌, refl}
use lib.ListN.{replicate}
use Rattle.refusal.specs.Number.{number_of}
use Rattle.refusal.specs.Outcome.{given, refused}
use Rattle.field.specs.Fp.{p}
use Rattle.records.specs.Kinds.{bytes_of_all}
use Rattle.records.specs.declared.Record.{Record}
use Rattle.records.proofs.Examples.{key}
use Rattle.arrays.specs.Arrays.{cells, calls}
use Rattle.key.specs.Check.{checked_key}
use Rattle.key.specs.Encoding.{head_record}
use Rattle.key.specs.Index.{starts_of}
use Rattle.key.specs.KeyArrays.{key_arrays}
use Rattle.key.proofs.Computing.{checking}

counted : checked_key key ≡ given (record { arrays = 2; cells = 1; calls = 2; rows = 1; columns = 1 })
unfolding checking
counted = refl

begins : starts_of key ≡ 3 ∷ 27 ∷ []
unfolding checking
begins = refl

arrays :
    key_arrays key ≡
    record {
      row_bits = 0;
      column_bits = 1;
      entries = cells (record { row = 0; column = 1; values = record { a = 5; b = 7; c = 0 } } ∷ []);
    } ∷
    record {
      row_bits = 1;
      column_bits = 1;
      entries = calls (record { id = 0; down = 0; right = 0; factor = 1 } ∷ record { id = 0; down = 0; right = 0; factor = 1 } ∷ []);
    } ∷ []
unfolding checking
arrays = refl

-- ---- refusals

abbrev sparse : ℕ → ℕ → Record
sparse k k' = Record.Sparse (record { rows = k; columns = k' })

abbrev recursive : ℕ → ℕ → Record
recursive k k' = Record.Recursive (record { rows = k; columns = k' })

abbrev cell : ℕ → ℕ → ℕ → Record
cell row column a = Record.Cell (record { row = row; column = column; a = a; b = 0; c = 0 })

abbrev call : ℕ → ℕ → ℕ → Record
call id down right = Record.Call (record { id = id; down = down; right = right })

abbrev scaled_call : ℕ → ℕ → ℕ → ℕ → Record
scaled_call id down right factor = Record.ScaledCall (record { id = id; down = down; right = right; factor = factor })

-- keys with a fault, in the order of the numbers
abbrev keys : List (List ℕ)
keys =
    -- 2: no record
    [] ∷
    -- 2: a cell that is cut off
    (bytes_of_all (head_record false 1 1 ∷ sparse 1 1 ∷ []) ++ (0x04 ∷ 0x00 ∷ [])) ∷
    -- 3: an unknown kind
    (bytes_of_all (head_record false 1 1 ∷ []) ++ (0x09 ∷ [])) ∷
    -- 4: a cell directly behind the head, and an end before any array
    bytes_of_all (head_record false 1 1 ∷ cell 0 0 0 ∷ []) ∷
    bytes_of_all (head_record false 1 1 ∷ Record.End ∷ []) ∷
    -- 4: a second head of the other edition, and a call of the other edition
    bytes_of_all (head_record false 1 1 ∷ head_record true 1 1 ∷ []) ∷
    bytes_of_all (head_record true 1 1 ∷ sparse 1 1 ∷ recursive 1 1 ∷ call 0 0 0 ∷ []) ∷
    bytes_of_all (head_record false 1 1 ∷ sparse 1 1 ∷ recursive 1 1 ∷ scaled_call 0 0 0 p ∷ []) ∷
    -- 5: the head's bits, and an array's
    bytes_of_all (head_record false 31 0 ∷ []) ∷
    bytes_of_all (head_record false 1 1 ∷ sparse 1 2 ∷ []) ∷
    -- 7 and 8
    bytes_of_all (head_record false 1 1 ∷ sparse 1 1 ∷ cell 2 0 0 ∷ []) ∷
    bytes_of_all (head_record false 1 1 ∷ sparse 1 1 ∷ cell 1 1 p ∷ []) ∷
    -- 8: a factor, also where the call breaks 9 and 11
    bytes_of_all (head_record true 1 1 ∷ sparse 1 1 ∷ recursive 1 1 ∷ scaled_call 0 0 0 p ∷ []) ∷
    bytes_of_all (head_record true 1 1 ∷ recursive 1 1 ∷ scaled_call 0 2 0 p ∷ []) ∷
    -- 9, 10 and 11
    bytes_of_all (head_record false 1 1 ∷ recursive 1 1 ∷ call 0 0 0 ∷ []) ∷
    bytes_of_all (head_record false 1 1 ∷ sparse 1 1 ∷ recursive 0 1 ∷ call 0 0 0 ∷ []) ∷
    bytes_of_all (head_record false 1 1 ∷ sparse 1 1 ∷ recursive 1 1 ∷ call 0 0 1 ∷ []) ∷
    -- 12 and 13
    bytes_of_all (head_record false 1 1 ∷ sparse 1 0 ∷ Record.End ∷ []) ∷
    bytes_of_all (head_record false 1 1 ∷ sparse 1 1 ∷ Record.End ∷ Record.End ∷ []) ∷
    -- two faults in one record: 7 before 8, 9 before 11, 10 before 11 and 12 before 13
    bytes_of_all (head_record false 1 1 ∷ sparse 1 1 ∷ cell 2 0 p ∷ []) ∷
    bytes_of_all (head_record false 1 1 ∷ recursive 1 1 ∷ call 0 1 0 ∷ []) ∷
    bytes_of_all (head_record false 1 1 ∷ sparse 1 1 ∷ recursive 0 1 ∷ call 0 1 0 ∷ []) ∷
    bytes_of_all (head_record false 1 1 ∷ sparse 1 0 ∷ Record.End ∷ Record.End ∷ []) ∷
    []

faults :
    map checked_key keys ≡
    refused 2 0 ∷
    refused 2 6 ∷
    refused 3 3 ∷
    refused 4 3 ∷
    refused 4 3 ∷
    refused 4 3 ∷
    refused 4 9 ∷
    refused 4 9 ∷
    refused 5 0 ∷
    refused 5 3 ∷
    refused 7 6 ∷
    refused 8 6 ∷
    refused 8 9 ∷
    refused 8 6 ∷
    refused 9 6 ∷
    refused 10 9 ∷
    refused 11 9 ∷
    refused 12 6 ∷
    refused 13 7 ∷
    refused 7 6 ∷
    refused 9 6 ∷
    refused 10 9 ∷
    refused 12 6 ∷
    []
unfolding checking
faults = refl

-- 1: a byte too many
long : checked_key (replicate 65537 0) ≡ refused 1 65536
unfolding checked_key number_of
long = refl
