-- Keys of unequal shapes, compared (02, E7): a key and its growth, keys of which each is larger on one side, the factors, the sheets, and
-- what is refused.
use Prim.Native.Nat.{ℕ, ◌-◌}
use mathlib.Core.Bool.{false}
use mathlib.Core.List.{List, [], ◌∷◌, map}
use mathlib.Core.Path.{◌≡◌, refl}
use lib.ListN.{replicate}
use Rattle.refusal.specs.declared.Which.{Which}
use Rattle.field.specs.Fp.{p}
use Rattle.field.specs.Scalars.{prime}
use Rattle.records.proofs.Examples.{key}
use Rattle.arrays.specs.Arrays.{cells, calls}
use Rattle.key.specs.Encoding.{key_bytes}
use Rattle.comparison.specs.Compare.{same, different, Comparison, compared}
use Rattle.comparison.proofs.CompareCases.{refused_call}
use Rattle.comparison.proofs.Computing.{comparing}
use Rattle.comparison.proofs.Examples.{sparse, cell, answers, none}

-- a key of one place, and that key called at a position of one row bit and one column bit
abbrev pub small : List ℕ
small = sparse 0 0 (cell 0 0 5 7 0 ∷ [])

abbrev pub grown : ℕ → ℕ → List ℕ
grown down right =
    key_bytes false 1 1
    (record { row_bits = 0; column_bits = 0; entries = cells (cell 0 0 5 7 0 ∷ []) } ∷
    record { row_bits = 1; column_bits = 1; entries = calls (record { id = 0; down = down; right = right; factor = 1 } ∷ []) } ∷ [])

abbrev grown_at : ℕ → ℕ → ℕ → ℕ → Comparison
grown_at down right row column = compared prime small (grown down right) (row ∷ []) (column ∷ []) (replicate 7 9)

-- At position 0 the growth is the same at every point. One row down it is the same where the row coordinate is a half, that is 2^30, or
-- the column coordinate 1; one row down and one column right, where the coordinates add up to 1.
against-growth :
    answers
    (grown_at 0 0 3 4 ∷ grown_at 0 0 (p - 1) 0 ∷ grown_at 1 0 3 4 ∷ grown_at 1 0 1073741824 4 ∷ grown_at 1 0 3 1 ∷
    grown_at 1 1 3 4 ∷ grown_at 1 1 3 (p - 2) ∷ [])
    ≡ same ∷ same ∷ different ∷ same ∷ same ∷ different ∷ same ∷ []
unfolding comparing
against-growth = refl

-- one key larger in rows, the other in columns: both are filled up
abbrev crossed : ℕ → ℕ → Comparison
crossed row column =
    compared prime (sparse 1 0 (cell 1 0 5 0 0 ∷ [])) (sparse 0 1 (cell 0 1 5 0 0 ∷ [])) (row ∷ []) (column ∷ []) (replicate 3 9)

crossed-shapes : answers (crossed 3 4 ∷ crossed 3 3 ∷ crossed 0 1 ∷ []) ≡ different ∷ same ∷ different ∷ []
unfolding comparing
crossed-shapes = refl

-- the factors of both keys, and one for each coordinate that a key doesn't use: two for the small key, one for each of the crossed
unused-counted : map (λ (c : Comparison). c.factors) (grown_at 0 0 3 4 ∷ grown_at 1 1 3 4 ∷ crossed 3 4 ∷ []) ≡ 4 ∷ 4 ∷ 4 ∷ []
unfolding comparing
unused-counted = refl

-- the sheet has each key's triples as evaluate leaves them: 5·(1 - 3)·(1 - 4) and 7·(1 - 3)·(1 - 4) are the grown key's
unused-unwritten :
    map (λ (c : Comparison). c.sheet)
    (grown_at 0 0 3 4 ∷ compared prime (grown 0 0) small (3 ∷ []) (4 ∷ []) (replicate 7 9) ∷
    compared prime small none (3 ∷ []) (4 ∷ []) (replicate 4 9) ∷ compared prime none small (3 ∷ []) (4 ∷ []) (replicate 4 9) ∷ [])
    ≡ (5 ∷ 7 ∷ 0 ∷ 30 ∷ 42 ∷ 0 ∷ 9 ∷ [])
    ∷ (5 ∷ 7 ∷ 0 ∷ 30 ∷ 42 ∷ 0 ∷ 9 ∷ [])
    ∷ (0 ∷ 0 ∷ 0 ∷ 9 ∷ [])
    ∷ (5 ∷ 7 ∷ 0 ∷ 9 ∷ [])
    ∷ []
unfolding comparing
unused-unwritten = refl

-- the counts of the larger bits are wanted, whichever key has them, and a coordinate that a key doesn't use is judged too
larger-wanted :
    (compared prime small key [] [] [] ∷
    compared prime key small (3 ∷ []) [] [] ∷
    compared prime (sparse 1 0 []) (sparse 0 1 []) (3 ∷ []) (4 ∷ 5 ∷ []) [] ∷
    compared prime small (sparse 1 0 []) (p ∷ []) [] [] ∷ [])
    ≡ refused_call Which.Neither 21 0 [] ∷ refused_call Which.Neither 22 0 [] ∷
    refused_call Which.Neither 22 2 [] ∷ refused_call Which.Neither 23 0 [] ∷ []
unfolding comparing
larger-wanted = refl
