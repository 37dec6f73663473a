-- The key of 01's keysheet input, evaluated and cell by cell, with its sheet, and a call for each refusal of a point, a place and
-- a sheet.
use Prim.Native.Nat.{ℕ, ◌-◌}
use mathlib.Core.List.{List, [], ◌∷◌, map}
use mathlib.Core.Path.{◌≡◌, refl}
use lib.ListN.{replicate}
use Rattle.refusal.specs.Outcome.{Outcome, given, refused}
use Rattle.field.specs.Fp.{p}
use Rattle.field.specs.Scalars.{prime}
use Rattle.records.proofs.Examples.{key}
use Rattle.evaluation.specs.Cell.{celled}
use Rattle.evaluation.specs.Evaluate.{Counted, Evaluation, evaluated}
use Rattle.evaluation.proofs.Computing.{evaluating}

-- every array's numbers, and behind them what was there
sheet : (evaluated prime key (3 ∷ []) (4 ∷ []) (replicate 8 9)).sheet ≡ 20 ∷ 28 ∷ 0 ∷ 2147483567 ∷ 2147483535 ∷ 0 ∷ 9 ∷ 9 ∷ []
unfolding evaluating
sheet = refl

-- the two calls both put the cell at row 0 and column 1; three factors are taken everywhere: one for the cell and one for each call
abbrev answer : Evaluation prime → Outcome (Counted prime)
answer e = e.answer

cells :
    map (λ (place : ℕ × ℕ). (celled key place.0 place.1 (replicate 6 9)).answer) ((0, 0) ∷ (0, 1) ∷ (1, 0) ∷ (1, 1) ∷ []) ≡
    given (record { values = record { a = 0; b = 0; c = 0 }; factors = 3 }) ∷
    given (record { values = record { a = 10; b = 14; c = 0 }; factors = 3 }) ∷
    given (record { values = record { a = 0; b = 0; c = 0 }; factors = 3 }) ∷
    given (record { values = record { a = 0; b = 0; c = 0 }; factors = 3 }) ∷ []
unfolding evaluating
cells = refl

-- at row 0 and column 1 array 0 has its cell, and array 1 both calls
cell-sheet : (celled key 0 1 (replicate 7 9)).sheet ≡ 5 ∷ 7 ∷ 0 ∷ 10 ∷ 14 ∷ 0 ∷ 9 ∷ []
unfolding evaluating
cell-sheet = refl

-- ---- refusals, in the order of the numbers: each call's later faults do not count

abbrev refusals : List (Evaluation prime)
refusals =
    -- the empty key
    evaluated prime [] [] [] [] ∷
    -- no row coordinate, and two
    evaluated prime key [] [] [] ∷
    evaluated prime key (p ∷ p ∷ []) [] [] ∷
    -- no column coordinate
    evaluated prime key (p ∷ []) [] [] ∷
    -- coordinates p or more, the row first
    evaluated prime key (p ∷ []) (p ∷ []) [] ∷
    evaluated prime key ((p - 1) ∷ []) (p ∷ []) [] ∷
    -- a row and a column outside the last array
    celled key 2 2 [] ∷
    celled key 1 2 [] ∷
    -- sheets one place too short
    evaluated prime key (3 ∷ []) (4 ∷ []) (replicate 5 9) ∷
    celled key 1 1 (replicate 5 9) ∷ []

refused_all :
    map answer refusals ≡
    refused 2 0 ∷
    refused 21 0 ∷ refused 21 2 ∷ refused 22 0 ∷ refused 23 0 ∷ refused 23 1 ∷
    refused 24 0 ∷ refused 24 1 ∷ refused 31 6 ∷ refused 31 6 ∷ []
unfolding evaluating
refused_all = refl

untouched : map (λ (e : Evaluation prime). e.sheet) refusals ≡ [] ∷ [] ∷ [] ∷ [] ∷ [] ∷ [] ∷ [] ∷ [] ∷ replicate 5 9 ∷ replicate 5 9 ∷ []
unfolding evaluating
untouched = refl
