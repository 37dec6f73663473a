-- Worked examples over the field of p elements, by computation: dense forms, their extensions and the pass.
use Prim.Native.Nat.{ℕ}
use mathlib.Core.List.{List, [], ◌∷◌, map}
use mathlib.Core.Path.{◌≡◌, refl}
use lib.ListN.{length}
use Rattle.algebra.specs.Arithmetic.{sum_below}
use Rattle.field.specs.Fp.{fp}
use Rattle.multilinear.specs.Extension.{weighted, extension}
use Rattle.multilinear.specs.Matrix.{moved}
use Rattle.multilinear.specs.Weight.{weight}
use Rattle.arrays.specs.Arrays.{Part, A, B, C, value_of, Cell, cells, calls, Array}
use Rattle.arrays.specs.Dense.{summed, entries_matrix, matrices_below, dense}
use Rattle.arrays.specs.Factors.{factors_in}
use Rattle.arrays.specs.Pass.{entries_terms, values_below}
use Rattle.arrays.specs.Placing.{blocks}
use Rattle.arrays.specs.Side.{coordinates}

-- the values of one part in array i, for these rows and columns
abbrev table : Part → List Array → ℕ → List ℕ → List ℕ → List (List ℕ)
table q arrays i rows columns = map (λ x. map (dense fp (λ x. x) (value_of q) blocks blocks arrays i x) columns) rows

-- the extension of one part of array i
abbrev extended : Part → List Array → ℕ → List ℕ → List ℕ → ℕ
extended q arrays i = extension fp (dense fp (λ x. x) (value_of q) blocks blocks arrays i)

-- what the pass gives for one part of each array
abbrev passes : Part → List Array → List ℕ → List ℕ → List ℕ
passes q arrays rows columns =
    values_below fp (λ x. x) (value_of q) (coordinates fp rows) (coordinates fp columns) arrays (length arrays)

-- a cell with A alone
abbrev cell_of : ℕ → ℕ → ℕ → Cell
cell_of row column a = record { row = row; column = column; values = record { a = a; b = 0; c = 0 } }

-- ---- 01's keysheet input: array 0 has A 5 and B 7 in its column 1, array 1 calls it twice at 0, 0

keysheet : List Array
keysheet =
    record {
      row_bits = 0;
      column_bits = 1;
      entries = cells (record { row = 0; column = 1; values = record { a = 5; b = 7; c = 0 } } ∷ []);
    }
    ∷ record {
      row_bits = 1;
      column_bits = 1;
      entries =
          calls (record { id = 0; down = 0; right = 0; factor = 1 } ∷ record { id = 0; down = 0; right = 0; factor = 1 } ∷ []);
    }
    ∷ []

-- A: twice 5 in row 0, column 1
keysheet-dense : table A keysheet 1 (0 ∷ 1 ∷ []) (0 ∷ 1 ∷ []) ≡ (0 ∷ 10 ∷ []) ∷ (0 ∷ 0 ∷ []) ∷ []
unfolding keysheet matrices_below entries_matrix summed moved
keysheet-dense = refl

-- at (3), (4): 10·(1 - 3)·4 = -80, 14·(1 - 3)·4 = -112 and 0
keysheet-extended : map (λ q. extended q keysheet 1 (3 ∷ []) (4 ∷ [])) (A ∷ B ∷ C ∷ []) ≡ 2147483567 ∷ 2147483535 ∷ 0 ∷ []
unfolding keysheet matrices_below entries_matrix summed moved weighted sum_below weight
keysheet-extended = refl

keysheet-passed : map (λ q. passes q keysheet (3 ∷ []) (4 ∷ [])) (A ∷ B ∷ C ∷ [])
    ≡ (20 ∷ 2147483567 ∷ []) ∷ (28 ∷ 2147483535 ∷ []) ∷ (0 ∷ 0 ∷ []) ∷ []
unfolding keysheet values_below entries_terms weight
keysheet-passed = refl

-- its cell weighs one column coordinate, each of its calls the row coordinate that array 0 leaves
keysheet-factors : factors_in keysheet ≡ 3
unfolding keysheet
keysheet-factors = refl

-- ---- two cells at one place, with A p - 1 and 2: they add up to p + 1, which is 1

repeated : List Array
repeated =
    record { row_bits = 0; column_bits = 0; entries = cells (cell_of 0 0 2147483646 ∷ cell_of 0 0 2 ∷ []) } ∷ []

repeated-dense : table A repeated 0 (0 ∷ []) (0 ∷ []) ≡ (1 ∷ []) ∷ []
unfolding repeated matrices_below entries_matrix summed
repeated-dense = refl

repeated-passed : passes A repeated [] [] ≡ 1 ∷ []
unfolding repeated values_below entries_terms weight
repeated-passed = refl

-- without coordinates there are no factors
repeated-factors : factors_in repeated ≡ 0
unfolding repeated
repeated-factors = refl

-- ---- a recursive array without calls is zero

empty : List Array
empty = record { row_bits = 1; column_bits = 1; entries = calls [] } ∷ []

empty-dense : table A empty 0 (0 ∷ 1 ∷ []) (0 ∷ 1 ∷ []) ≡ (0 ∷ 0 ∷ []) ∷ (0 ∷ 0 ∷ []) ∷ []
unfolding empty matrices_below entries_matrix summed
empty-dense = refl

empty-passed : passes A empty (3 ∷ []) (4 ∷ []) ≡ 0 ∷ []
unfolding empty values_below entries_terms
empty-passed = refl

-- ---- an array of one row bit, called at a = 1 into two row bits: its row 0 lands at row 2

lower : List Array
lower =
    record { row_bits = 1; column_bits = 0; entries = cells (cell_of 0 0 9 ∷ []) }
    ∷ record { row_bits = 2; column_bits = 0; entries = calls (record { id = 0; down = 1; right = 0; factor = 1 } ∷ []) }
    ∷ []

lower-dense : table A lower 1 (0 ∷ 1 ∷ 2 ∷ 3 ∷ []) (0 ∷ []) ≡ (0 ∷ []) ∷ (0 ∷ []) ∷ (9 ∷ []) ∷ (0 ∷ []) ∷ []
unfolding lower matrices_below entries_matrix summed moved
lower-dense = refl

-- at (3, 4), (): 9·(1 - 3)·4 = -72
lower-extended : extended A lower 1 (3 ∷ 4 ∷ []) [] ≡ 2147483575
unfolding lower matrices_below entries_matrix summed moved weighted sum_below weight
lower-extended = refl

-- array 0 is 9·(1 - 3) = -18
lower-passed : passes A lower (3 ∷ 4 ∷ []) [] ≡ 2147483629 ∷ 2147483575 ∷ []
unfolding lower values_below entries_terms weight
lower-passed = refl

-- ---- an array of one column bit, called at a' = 1 into two column bits: its column 1 lands at column 3

aside : List Array
aside =
    record { row_bits = 0; column_bits = 1; entries = cells (cell_of 0 1 9 ∷ []) }
    ∷ record { row_bits = 0; column_bits = 2; entries = calls (record { id = 0; down = 0; right = 1; factor = 1 } ∷ []) }
    ∷ []

aside-dense : table A aside 1 (0 ∷ []) (0 ∷ 1 ∷ 2 ∷ 3 ∷ []) ≡ (0 ∷ 0 ∷ 0 ∷ 9 ∷ []) ∷ []
unfolding aside matrices_below entries_matrix summed moved
aside-dense = refl

-- at (), (3, 4): array 0 is 9·3, array 1 is 9·3·4
aside-passed : passes A aside [] (3 ∷ 4 ∷ []) ≡ 27 ∷ 108 ∷ []
unfolding aside values_below entries_terms weight
aside-passed = refl

-- ---- an array called with the factor 1, and at the same position with the factor p - 1, which is -1: the calls cancel

cancelled : List Array
cancelled =
    record { row_bits = 0; column_bits = 1; entries = cells (cell_of 0 1 5 ∷ []) }
    ∷ record {
      row_bits = 1;
      column_bits = 1;
      entries =
          calls
          (record { id = 0; down = 1; right = 0; factor = 1 }
          ∷ record { id = 0; down = 1; right = 0; factor = 2147483646 }
          ∷ []);
    }
    ∷ []

cancelled-dense : table A cancelled 1 (0 ∷ 1 ∷ []) (0 ∷ 1 ∷ []) ≡ (0 ∷ 0 ∷ []) ∷ (0 ∷ 0 ∷ []) ∷ []
unfolding cancelled matrices_below entries_matrix summed moved
cancelled-dense = refl

-- at (3), (4): array 0 is 5·4, array 1 is 5·4·3 - 5·4·3
cancelled-passed : passes A cancelled (3 ∷ []) (4 ∷ []) ≡ 20 ∷ 0 ∷ []
unfolding cancelled values_below entries_terms weight
cancelled-passed = refl

-- ---- an array called with the factor 3, which is called with the factor p - 2: 5 becomes 3·5, and that -2·3·5

tripled : List Array
tripled =
    record { row_bits = 0; column_bits = 1; entries = cells (cell_of 0 1 5 ∷ []) }
    ∷ record { row_bits = 1; column_bits = 1; entries = calls (record { id = 0; down = 1; right = 0; factor = 3 } ∷ []) }
    ∷ record { row_bits = 1; column_bits = 1; entries = calls (record { id = 1; down = 0; right = 0; factor = 2147483645 } ∷ []) }
    ∷ []

tripled-dense : map (λ i. table A tripled i (0 ∷ 1 ∷ []) (0 ∷ 1 ∷ [])) (1 ∷ 2 ∷ [])
    ≡ ((0 ∷ 0 ∷ []) ∷ (0 ∷ 15 ∷ []) ∷ []) ∷ ((0 ∷ 0 ∷ []) ∷ (0 ∷ 2147483617 ∷ []) ∷ []) ∷ []
unfolding tripled matrices_below entries_matrix summed moved
tripled-dense = refl

-- at (3), (4): 5·4, 3·5·4·3 and -2·3·5·4·3
tripled-passed : passes A tripled (3 ∷ []) (4 ∷ []) ≡ 20 ∷ 180 ∷ 2147483287 ∷ []
unfolding tripled values_below entries_terms weight
tripled-passed = refl

-- the cell weighs one coordinate, the first call one and the second none: the factors 3 and p - 2 do not count
tripled-factors : factors_in tripled ≡ 2
unfolding tripled
tripled-factors = refl
