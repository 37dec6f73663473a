-- Evaluate, cell, compare and locate go by what check says of a key and by its arrays alone, and so they answer alike on a key and on its
-- copy in the other edition.
use Prim.Native.Nat.{ℕ, ◌+◌, ◌-◌}
use mathlib.Core.List.{List, ◌++◌}
use mathlib.Core.Path.{◌≡◌, sym, ap₂, ◌∙◌}
use lib.ListN.{length, take, drop}
use Rattle.refusal.specs.Outcome.{Outcome, and_then}
use Rattle.refusal.specs.declared.Which.{Which}
use Rattle.field.specs.Fp.{fp}
use Rattle.field.specs.Scalars.{Scalars, prime}
use Rattle.multilinear.specs.Weight.{bits}
use Rattle.arrays.specs.Arrays.{Values, Array}
use Rattle.arrays.specs.Factors.{factors_in}
use Rattle.key.specs.Check.{checked_key}
use Rattle.key.specs.KeyArrays.{key_arrays}
use Rattle.key.specs.declared.Counts.{Counts}
use Rattle.judge.specs.Judged.{point_judged, place_judged, sheet_judged, pair_judged}
use Rattle.evaluation.specs.Cell.{dense_values, celled}
use Rattle.evaluation.specs.Evaluate.{ValuesOf, last_of, values_at, Evaluation, concluded, evaluated}
use Rattle.evaluation.specs.Sheet.{places_of}
use Rattle.comparison.specs.AgreementBound.{is_same}
use Rattle.comparison.specs.Compare.{Comparison, naming, likeness, compared}
use Rattle.comparison.specs.Filled.{used, unused_weight, multiplied, filled_values, filled_factors, own_sheet}
use Rattle.location.specs.Locate.{settled, from_bits, differ_in, Location, last_dense_values, by_answer, located}
use Rattle.editions.specs.Move.{moved_key}
use Rattle.editions.specs.OtherEdition.{Alike}
use Rattle.editions.proofs.MovedKey.{Movable, moved-accepted, moved-arrays}

-- evaluate's answer and sheet, by what check says of the key and by the arrays
abbrev evaluation : (𝓢 : Scalars) → List ℕ → List ℕ → List ℕ → Outcome Counts → List Array → Evaluation 𝓢
evaluation 𝓢 rows columns sheet checked arrays =
    concluded 𝓢 (and_then (and_then checked (point_judged 𝓢.width rows columns)) (sheet_judged (places_of 𝓢) (length sheet)))
    (λ counts. record { values = values_at 𝓢 arrays rows columns (last_of arrays); factors = factors_in arrays })
    (λ counts. values_at 𝓢 arrays rows columns)
    sheet

-- a key's triple and factors in a comparison, and the sheet that its evaluation leaves, by the same
abbrev filled_by : (𝓢 : Scalars) → List Array → Counts → List ℕ → List ℕ → ValuesOf 𝓢
filled_by 𝓢 arrays own rows columns =
    multiplied 𝓢 (values_at 𝓢 arrays (used 𝓢 own.rows rows) (used 𝓢 own.columns columns) (last_of arrays))
    (𝓢.arithmetic.mul (unused_weight 𝓢 own.rows rows) (unused_weight 𝓢 own.columns columns))

abbrev factors_by : List Array → Counts → Counts → ℕ
factors_by arrays own both = factors_in arrays + ((both.rows - own.rows) + (both.columns - own.columns))

abbrev sheet_by : Scalars → Outcome Counts → List Array → Counts → List ℕ → List ℕ → List ℕ → List ℕ
sheet_by 𝓢 checked arrays own rows columns sheet =
    (evaluation 𝓢 (used 𝓢 own.rows rows) (used 𝓢 own.columns columns) sheet checked arrays).sheet

module _ (𝓢 : Scalars) (one other : List ℕ) (checks : checked_key one ≡ checked_key other) (arrays : key_arrays one ≡ key_arrays other) where
  evaluates-alike : (rows columns sheet : List ℕ) → evaluated 𝓢 one rows columns sheet ≡ evaluated 𝓢 other rows columns sheet
  evaluates-alike rows columns sheet = ap₂ (evaluation 𝓢 rows columns sheet) checks arrays

  cells-alike : (row column : ℕ) (sheet : List ℕ) → celled one row column sheet ≡ celled other row column sheet
  cells-alike row column sheet =
      ap₂ (λ (checked : Outcome Counts) (arrays : List Array).
      concluded prime (and_then (and_then checked (place_judged row column)) (sheet_judged (places_of prime) (length sheet)))
      (λ counts. record { values = dense_values arrays (last_of arrays) row column; factors = factors_in arrays })
      (λ counts. values_at prime arrays (bits fp counts.rows row) (bits fp counts.columns column))
      sheet)
      checks arrays

  compares-first-alike : (second rows columns sheet : List ℕ) →
      compared 𝓢 one second rows columns sheet ≡ compared 𝓢 other second rows columns sheet
  compares-first-alike second rows columns sheet =
      ap₂ (λ (checked : Outcome Counts) (arrays : List Array).
      naming Which.First checked sheet (λ counts.
      naming Which.Second (checked_key second) sheet (λ counts'.
      naming Which.Neither (pair_judged 𝓢.width rows columns (length sheet) counts counts') sheet (λ both.
      record {
        answer = likeness 𝓢 (filled_by 𝓢 arrays counts rows columns) (filled_values 𝓢 second counts' rows columns);
        factors = factors_by arrays counts both + filled_factors second counts' both.rows both.columns;
        sheet = own_sheet 𝓢 second counts' rows columns (sheet_by 𝓢 checked arrays counts rows columns sheet);
      }))))
      checks arrays

  compares-second-alike : (first rows columns sheet : List ℕ) →
      compared 𝓢 first one rows columns sheet ≡ compared 𝓢 first other rows columns sheet
  compares-second-alike first rows columns sheet =
      ap₂ (λ (checked : Outcome Counts) (arrays : List Array).
      naming Which.First (checked_key first) sheet (λ counts.
      naming Which.Second checked sheet (λ counts'.
      naming Which.Neither (pair_judged 𝓢.width rows columns (length sheet) counts counts') sheet (λ both.
      record {
        answer = likeness 𝓢 (filled_values 𝓢 first counts rows columns) (filled_by 𝓢 arrays counts' rows columns);
        factors = filled_factors first counts both.rows both.columns + factors_by arrays counts' both;
        sheet = sheet_by 𝓢 checked arrays counts' rows columns (own_sheet 𝓢 first counts rows columns sheet);
      }))))
      checks arrays

-- locate's answer and sheet, by what compare answers and leaves and by the values that the keys hold
abbrev location : (List ℕ → List ℕ → List ℕ → Comparison) → (ℕ → ℕ → Values) → (ℕ → ℕ → Values) → List ℕ → List ℕ → List ℕ → Location
location comparing first second rows columns sheet =
    let point = settled (λ at. is_same (comparing (take (length rows) at) (drop (length rows) at) sheet).answer) (rows ++ columns) in
    let row = from_bits (take (length rows) point) in
    let column = from_bits (drop (length rows) point) in
    by_answer (comparing rows columns sheet).answer (comparing rows columns sheet).sheet
    (record {
      answer = differ_in row column (first row column) (second row column);
      sheet = (comparing (take (length rows) point) (drop (length rows) point) sheet).sheet;
    })

module _ (one other : List ℕ) (checks : checked_key one ≡ checked_key other) (arrays : key_arrays one ≡ key_arrays other) where
  locates-first-alike : (second rows columns sheet : List ℕ) → located one second rows columns sheet ≡ located other second rows columns sheet
  locates-first-alike second rows columns sheet =
      λ t. location (λ r c s. compares-first-alike prime one other checks arrays second r c s t)
      (dense_values (arrays t) (last_of (arrays t))) (last_dense_values second) rows columns sheet

  locates-second-alike : (first rows columns sheet : List ℕ) → located first one rows columns sheet ≡ located first other rows columns sheet
  locates-second-alike first rows columns sheet =
      λ t. location (λ r c s. compares-second-alike prime one other checks arrays first r c s t)
      (last_dense_values first) (dense_values (arrays t) (last_of (arrays t))) rows columns sheet

  pub answers-alike : (𝓢 : Scalars) → Alike 𝓢 one other
  answers-alike 𝓢 =
      record {
        checks = checks;
        evaluates = evaluates-alike 𝓢 one other checks arrays;
        cells = cells-alike 𝓢 one other checks arrays;
        compares_first = compares-first-alike 𝓢 one other checks arrays;
        compares_second = compares-second-alike 𝓢 one other checks arrays;
        locates_first = locates-first-alike;
        locates_second = locates-second-alike;
      }

-- so they answer on the moved key as on the key
pub moved-alike : (𝓢 : Scalars) (key : List ℕ) (counts : Counts) → Movable key counts → Alike 𝓢 (moved_key key) key
moved-alike 𝓢 key counts movable =
    answers-alike (moved_key key) key (moved-accepted key counts movable ∙ sym movable.accepted) (moved-arrays key counts movable) 𝓢
