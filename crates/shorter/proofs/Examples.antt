-- Keys that are handed back, by computation: the shorter, the first on a tie, keys of two editions and of unequal shapes; and none where
-- compare says "different" or refuses.
use Prim.Native.Nat.{ℕ, ◌-◌}
use mathlib.Core.Bool.{true, false}
use mathlib.Core.List.{List, [], ◌∷◌}
use mathlib.Core.Path.{◌≡◌, refl}
use lib.ListN.{length, replicate}
use Rattle.refusal.specs.declared.Which.{Which}
use Rattle.field.specs.Fp.{p}
use Rattle.arrays.specs.Arrays.{Array, cells, calls}
use Rattle.key.specs.Encoding.{key_bytes}
use Rattle.comparison.proofs.Computing.{comparing}
use Rattle.comparison.proofs.Examples.{sparse, cell, corner, none}
use Rattle.comparison.proofs.ExamplesOfGrowth.{small, grown}
use Rattle.shorter.specs.Shorter.{handed_by, handed_key, handed_length}

-- one name for the definitions by which a key is handed back
unfoldable handing : Unit {0}
unfolding comparing handed_by
handing = tt

abbrev key_at : List ℕ → List ℕ → List ℕ → List ℕ → Which
key_at first second rows columns = handed_key first second rows columns (replicate 18 9)

-- 5 and 7 at the one place, in two cells; `small` has them in one
abbrev parted : ℕ → List ℕ
parted a = sparse 0 0 (cell 0 0 a 7 0 ∷ cell 0 0 (5 - a) 0 0 ∷ [])

-- The shorter of two that are the same, wherever it stands. On a tie it is the first, though the bytes are not the same.
shorter-of-two :
    key_at small (parted 2) [] [] ∷ key_at (parted 2) small [] [] ∷ key_at (parted 2) (parted 3) [] [] ∷ key_at small small [] [] ∷ []
    ≡ Which.First ∷ Which.Second ∷ Which.First ∷ Which.First ∷ []
unfolding handing
shorter-of-two = refl

-- two keys of no cells that are one byte apart: six sparse arrays, and one that another calls
abbrev nothing : Array
nothing = record { row_bits = 0; column_bits = 0; entries = cells [] }

abbrev six : List ℕ
six = key_bytes false 0 0 (replicate 6 nothing)

abbrev calling : List ℕ
calling =
    key_bytes false 0 0
    (nothing ∷
    record { row_bits = 0; column_bits = 0; entries = calls (record { id = 0; down = 0; right = 0; factor = 1 } ∷ []) } ∷ [])

one-byte-apart : length six ∷ length calling ∷ [] ≡ 22 ∷ 21 ∷ []
unfolding handing
one-byte-apart = refl

shorter-by-one : key_at six calling [] [] ∷ key_at calling six [] [] ∷ [] ≡ Which.Second ∷ Which.First ∷ []
unfolding handing
shorter-by-one = refl

-- one circuit in two editions, of which edition 1 is the shorter, and in two shapes, of which the smaller is
abbrev scaled : List ℕ
scaled =
    key_bytes true 1 1
    (record { row_bits = 0; column_bits = 0; entries = cells (cell 0 0 5 7 0 ∷ []) } ∷
    record { row_bits = 1; column_bits = 1; entries = calls (record { id = 0; down = 0; right = 0; factor = 1 } ∷ []) } ∷ [])

editions-and-shapes :
    key_at (grown 0 0) scaled (3 ∷ []) (4 ∷ []) ∷ key_at scaled (grown 0 0) (3 ∷ []) (4 ∷ []) ∷
    key_at small (grown 0 0) (3 ∷ []) (4 ∷ []) ∷ key_at scaled small (3 ∷ []) (4 ∷ []) ∷ []
    ≡ Which.First ∷ Which.Second ∷ Which.First ∷ Which.Second ∷ []
unfolding handing
editions-and-shapes = refl

-- keys that differ: neither where that shows, and the shorter at a point where it does not
differing-keys :
    key_at corner none (7 ∷ []) (3 ∷ []) ∷ key_at none corner (7 ∷ []) (3 ∷ []) ∷ key_at corner none (0 ∷ []) (3 ∷ []) ∷ []
    ≡ Which.Neither ∷ Which.Neither ∷ Which.Second ∷ []
unfolding handing
differing-keys = refl

-- refused: the first key, the second key, the counts of coordinates, a coordinate, and the sheet
refused-calls :
    key_at [] small [] [] ∷ key_at small [] [] [] ∷ key_at none none [] (3 ∷ []) ∷ key_at none none (3 ∷ []) [] ∷
    key_at none none (p ∷ []) (3 ∷ []) ∷ handed_key none none (3 ∷ []) (3 ∷ []) (replicate 2 9) ∷ []
    ≡ replicate 6 Which.Neither
unfolding handing
refused-calls = refl

-- rows before columns: a key of one row bit and no column bits
abbrev tall : List ℕ
tall = sparse 1 0 (cell 1 0 5 0 0 ∷ [])

rows-first : key_at tall tall (3 ∷ []) [] ∷ key_at tall tall [] (3 ∷ []) ∷ [] ≡ Which.First ∷ Which.Neither ∷ []
unfolding handing
rows-first = refl

-- how many bytes are handed back
lengths :
    handed_length Which.First (1 ∷ 2 ∷ 3 ∷ []) (4 ∷ 5 ∷ []) ∷ handed_length Which.Second (1 ∷ 2 ∷ 3 ∷ []) (4 ∷ 5 ∷ []) ∷
    handed_length Which.Neither (1 ∷ 2 ∷ 3 ∷ []) (4 ∷ 5 ∷ []) ∷ []
    ≡ 3 ∷ 2 ∷ 0 ∷ []
lengths = refl
