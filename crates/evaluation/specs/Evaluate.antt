-- What evaluate answers, and what it leaves on the sheet (01, 'Dense form and evaluation'; 02, E4).
use Rattle.std.specs.Prelude.{ℕ, ◌-◌, List, length, take}
use Rattle.refusal.specs.Outcome.{Outcome, given, refused, and_then}
use Rattle.field.specs.Fp.{fp}
use Rattle.field.specs.Scalars.{Scalars}
use Rattle.multilinear.specs.Extension.{extension}
use Rattle.multilinear.specs.Matrix.{Matrix}
use Rattle.arrays.specs.Arrays.{Triple, Part, value_of, values_by, Array, array_at}
use Rattle.arrays.specs.Dense.{dense}
use Rattle.arrays.specs.Placing.{blocks}
use Rattle.key.specs.Check.{checked_key}
use Rattle.key.specs.Factors.{key_factors}
use Rattle.key.specs.KeyArrays.{key_arrays}
use Rattle.key.specs.declared.Counts.{Counts}
use Rattle.judge.specs.Judged.{point_judged, sheet_judged}
use Rattle.evaluation.specs.Sheet.{words_of, places_of, laid}

-- the number of the last array
abbrev pub last_of : List Array → ℕ
last_of arrays = length arrays - 1

-- the dense A, B or C of array i, every sum taken modulo p
abbrev pub dense_of : List Array → ℕ → Part → Matrix fp
dense_of arrays i part = dense fp (λ x. x) (value_of part) blocks blocks arrays i

-- A, B and C of something, each an element of the field 𝓢
abbrev pub ValuesOf : Scalars → Type 0
ValuesOf 𝓢 = Triple 𝓢.arithmetic.Carrier

-- The three values of array i at a point: the extensions of its dense matrices at its own leading coordinates, which the numbers
-- in `rows` and `columns` make.
abbrev pub values_at : (𝓢 : Scalars) → List Array → List ℕ → List ℕ → ℕ → ValuesOf 𝓢
values_at 𝓢 arrays rows columns i =
    values_by (λ part.
    extension 𝓢.arithmetic (λ x y. 𝓢.embed (dense_of arrays i part x y))
    (take (array_at arrays i).row_bits (𝓢.elements rows)) (take (array_at arrays i).column_bits (𝓢.elements columns)))

-- the three values that evaluate answers for a key: those of the last array
abbrev pub last_values : (𝓢 : Scalars) → List ℕ → List ℕ → List ℕ → ValuesOf 𝓢
last_values 𝓢 key rows columns = values_at 𝓢 (key_arrays key) rows columns (last_of (key_arrays key))

-- values, and how many factors were taken for them
pub record Counted (𝓢 : Scalars) : Type 0 where
  pub values : ValuesOf 𝓢
  pub factors : ℕ

-- values with the factors of a key
abbrev pub counted_for : (𝓢 : Scalars) → List ℕ → ValuesOf 𝓢 → Counted 𝓢
counted_for 𝓢 key values = record { values = values; factors = key_factors key }

-- what a call answers, and its sheet afterwards
pub record Evaluation (𝓢 : Scalars) : Type 0 where
  pub answer : Outcome (Counted 𝓢)
  pub sheet : List ℕ

-- A refused call leaves the sheet as it was. Else the call answers `last`, and `each` array's numbers stand on the sheet, those
-- of array i from 3i on, or from 6i on where an element has two.
unfoldable pub concluded : (𝓢 : Scalars) → Outcome Counts → (Counts → Counted 𝓢) → (Counts → ℕ → ValuesOf 𝓢) → List ℕ →
    Evaluation 𝓢
concluded 𝓢 (refused number place) last each sheet = record { answer = refused number place; sheet = sheet }
concluded 𝓢 (given counts) last each sheet =
    record {
      answer = given (last counts);
      sheet = laid 0 (λ i. words_of 𝓢 (each counts i)) counts.arrays sheet;
    }

-- Check's refusals come first, then 21, 22, 23, then 31. The answer is the last array's values, and the factors of all arrays.
abbrev pub evaluated : (𝓢 : Scalars) → List ℕ → List ℕ → List ℕ → List ℕ → Evaluation 𝓢
evaluated 𝓢 key rows columns sheet =
    concluded 𝓢
    (and_then (and_then (checked_key key) (point_judged 𝓢.width rows columns)) (sheet_judged (places_of 𝓢) (length sheet)))
    (λ counts. counted_for 𝓢 key (last_values 𝓢 key rows columns))
    (λ counts. values_at 𝓢 (key_arrays key) rows columns)
    sheet
