-- What cell answers, and what it leaves on the sheet (01, 'Single cells'; 02, E4).
use Rattle.std.specs.Prelude.{ℕ, List, length}
use Rattle.refusal.specs.Outcome.{and_then}
use Rattle.field.specs.Fp.{fp}
use Rattle.field.specs.Scalars.{prime}
use Rattle.multilinear.specs.Weight.{bits}
use Rattle.arrays.specs.Arrays.{Values, values_by, Array}
use Rattle.key.specs.Check.{checked_key}
use Rattle.key.specs.KeyArrays.{key_arrays}
use Rattle.judge.specs.Judged.{place_judged, sheet_judged}
use Rattle.evaluation.specs.Evaluate.{last_of, dense_of, values_at, counted_for, Evaluation, concluded}
use Rattle.evaluation.specs.Sheet.{places_of}

-- the dense values of array i at a row and a column
abbrev pub dense_values : List Array → ℕ → ℕ → ℕ → Values
dense_values arrays i row column = values_by (λ part. dense_of arrays i part row column)

-- Check's refusals come first, then 24, then 31. The answer is the last array's dense values, and the factors of all arrays; the sheet is
-- as after evaluate at the point whose coordinates are the bits of the row and of the column (`cell-sheet` in
-- proofs/SheetAfterCell.antt).
abbrev pub celled : List ℕ → ℕ → ℕ → List ℕ → Evaluation prime
celled key row column sheet =
    concluded prime (and_then (and_then (checked_key key) (place_judged row column)) (sheet_judged (places_of prime) (length sheet)))
    (λ counts. counted_for prime key (dense_values (key_arrays key) (last_of (key_arrays key)) row column))
    (λ counts. values_at prime (key_arrays key) (bits fp counts.rows row) (bits fp counts.columns column))
    sheet
