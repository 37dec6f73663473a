-- Cells that are located, by computation: the way, the values and the sheets, unequal shapes, no coordinates, "same", and a refusal.
use Prim.Native.Nat.{ℕ}
use mathlib.Core.List.{List, [], ◌∷◌}
use mathlib.Core.Path.{◌≡◌, refl}
use lib.ListN.{replicate}
use Rattle.refusal.specs.declared.Which.{Which}
use Rattle.arrays.specs.Arrays.{Values}
use Rattle.comparison.specs.AgreementBound.{is_same}
use Rattle.comparison.proofs.Computing.{comparing}
use Rattle.comparison.proofs.Examples.{sparse, cell, corner, none}
use Rattle.comparison.proofs.ExamplesOfGrowth.{small, grown}
use Rattle.location.specs.Locate.{same_at, settled, asked, from_bits, Found, same_there, differ_in, refused_as, by_answer, located}

-- one name for the definitions by which a cell is located
unfoldable locating : Unit {0}
unfolding comparing is_same settled asked from_bits by_answer
locating = tt

abbrev values : ℕ → ℕ → ℕ → Values
values a b c = record { a = a; b = b; c = c }

abbrev answer_of : List ℕ → List ℕ → List ℕ → List ℕ → Found
answer_of first second rows columns = (located first second rows columns (replicate 6 9)).answer

-- one cell at the last place against none: that cell, or "same" where it has no weight
last-place :
    answer_of corner none (7 ∷ []) (3 ∷ []) ∷ answer_of none corner (1 ∷ []) (1 ∷ []) ∷ answer_of corner none (0 ∷ []) (3 ∷ []) ∷ []
    ≡ differ_in 1 1 (values 0 5 0) (values 0 0 0) ∷ differ_in 1 1 (values 0 0 0) (values 0 5 0) ∷ same_there ∷ []
unfolding locating
last-place = refl

-- 0 before 1, and rows before columns
first-of-two :
    answer_of (sparse 1 1 (cell 0 0 1 0 0 ∷ cell 1 1 2 0 0 ∷ [])) none (7 ∷ []) (3 ∷ []) ∷
    answer_of (sparse 1 1 (cell 0 1 0 0 3 ∷ cell 1 0 0 0 4 ∷ [])) none (7 ∷ []) (3 ∷ []) ∷ []
    ≡ differ_in 0 0 (values 1 0 0) (values 0 0 0) ∷ differ_in 0 1 (values 0 0 3) (values 0 0 0) ∷ []
unfolding locating
first-of-two = refl

-- From coordinate 0 up, with the later ones kept: of rows 1 and 2 the second. Its bits are 0 and 1, and there the keys are asked at the point
-- with the first coordinate 0 and then at that with both 0.
abbrev two_rows : List ℕ
two_rows = sparse 2 0 (cell 1 0 1 0 0 ∷ cell 2 0 2 0 0 ∷ [])

lowest-first : answer_of two_rows (sparse 2 0 []) (7 ∷ 3 ∷ []) [] ≡ differ_in 2 0 (values 2 0 0) (values 0 0 0)
unfolding locating
lowest-first = refl

asked-there : asked (same_at two_rows (sparse 2 0 []) 2 (replicate 3 9)) (7 ∷ 3 ∷ []) ≡ (0 ∷ 3 ∷ []) ∷ (0 ∷ 0 ∷ []) ∷ []
unfolding locating
asked-there = refl

-- keys of unequal shapes: a cell of the larger alone, where the smaller has zeros, and a key against its growth at the last place
unequal-shapes :
    answer_of small (sparse 1 1 (cell 0 0 5 7 0 ∷ cell 1 1 1 0 0 ∷ [])) (7 ∷ []) (3 ∷ []) ∷
    answer_of (grown 1 1) small (7 ∷ []) (3 ∷ []) ∷ answer_of small (grown 0 0) (7 ∷ []) (3 ∷ []) ∷ []
    ≡ differ_in 1 1 (values 0 0 0) (values 1 0 0) ∷ differ_in 0 0 (values 0 0 0) (values 5 7 0) ∷ same_there ∷ []
unfolding locating
unequal-shapes = refl

-- no coordinates: the one place
no-coordinates : answer_of small (sparse 0 0 []) [] [] ∷ answer_of small small [] [] ∷ []
    ≡ differ_in 0 0 (values 5 7 0) (values 0 0 0) ∷ same_there ∷ []
unfolding locating
no-coordinates = refl

-- the sheet is as after compare at the bits of the cell: the second key's numbers stand over the first's; one that is too short is left
sheets :
    located corner none (7 ∷ []) (3 ∷ []) (replicate 4 9) ∷ located (grown 1 1) none (7 ∷ []) (3 ∷ []) (replicate 7 9) ∷
    located corner none (7 ∷ []) (3 ∷ []) (replicate 2 9) ∷ []
    ≡ record { answer = differ_in 1 1 (values 0 5 0) (values 0 0 0); sheet = 0 ∷ 0 ∷ 0 ∷ 9 ∷ [] } ∷
    record { answer = differ_in 1 1 (values 5 7 0) (values 0 0 0); sheet = 0 ∷ 0 ∷ 0 ∷ 5 ∷ 7 ∷ 0 ∷ 9 ∷ [] } ∷
    record { answer = refused_as Which.Neither 31 3; sheet = 9 ∷ 9 ∷ [] } ∷ []
unfolding locating
sheets = refl
