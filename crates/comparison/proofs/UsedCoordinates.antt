-- A key takes no more coordinates than it uses: at a longer point its arrays have the values that they have at the coordinates it uses.
use Prim.Native.Nat.{ℕ, ◌*◌, ◌≤◌, ◌<◌}
use mathlib.Core.List.{List}
use mathlib.Core.Path.{◌≡◌, ap, ap₂, ◌∙◌}
use native.Mathlib.Nat.{mul-le-mul_left}
use native.Mathlib.Omega.{arith}
use lib.ListN.{length, take, drop}
use lib.Seq.{length-take-le, take-take}
use Rattle.refusal.specs.Outcome.{given}
use Rattle.algebra.proofs.CoordinatesBelow.{below-take}
use Rattle.field.specs.Fp.{p}
use Rattle.field.specs.Scalars.{Scalars, Lawful}
use Rattle.field.proofs.Elements.{elements-take, elements-drop}
use Rattle.multilinear.specs.Extension.{extension}
use Rattle.multilinear.specs.Weight.{weight}
use Rattle.arrays.specs.Arrays.{values_by, array_at}
use Rattle.key.specs.Check.{checked_key}
use Rattle.key.specs.KeyArrays.{key_arrays}
use Rattle.key.specs.declared.Counts.{Counts}
use Rattle.key.proofs.Acceptance.{acceptance}
use Rattle.judge.specs.Inner.{Coordinates}
use Rattle.judge.proofs.NothingRefused.{PointOf, point-of}
use Rattle.evaluation.specs.Evaluate.{last_of, dense_of, values_at, last_values, counted_for, evaluated}
use Rattle.evaluation.specs.Inner.{written_by}
use Rattle.evaluation.specs.Sheet.{words_of}
use Rattle.evaluation.proofs.EvaluatePromises.{arrays-counted}
use Rattle.evaluation.proofs.SheetAfterEvaluate.{answer-given, sheet-given}
use Rattle.evaluation.proofs.WordsOnSheet.{laid_same}
use Rattle.comparison.specs.Filled.{used, unused_weight, multiplied, filled_values, own_sheet}
use Rattle.comparison.specs.Inner.{Serves}

module _ (𝓢 : Scalars) (𝓛 : Lawful 𝓢) where
  abbrev Element : Type 0
  Element = 𝓢.arithmetic.Carrier

  -- one side of a point, rows or columns
  module _ (n : ℕ) (numbers : List ℕ) (side : Coordinates 𝓢 n numbers) where
    enough-numbers : 𝓢.width * n ≤ length numbers
    enough-numbers = omega (arith, side.whole, mul-le-mul_left 𝓢.width side.enough)

    used-elements : 𝓢.elements (used 𝓢 n numbers) ≡ take n (𝓢.elements numbers)
    used-elements = elements-take 𝓢 𝓛 n numbers enough-numbers

    unused-weight : unused_weight 𝓢 n numbers ≡ weight 𝓢.arithmetic 0 (drop n (𝓢.elements numbers))
    unused-weight = ap (weight 𝓢.arithmetic 0) (elements-drop 𝓢 𝓛 n numbers enough-numbers)

    -- an array of at most n bits takes the same coordinates
    leading : (k : ℕ) → k ≤ n → take k (𝓢.elements (used 𝓢 n numbers)) ≡ take k (𝓢.elements numbers)
    leading k l = ap (take k) used-elements ∙ take-take k n (𝓢.elements numbers) l

  module _ (key : List ℕ) (own : Counts) (accepted : checked_key key ≡ given own) (rows columns : List ℕ) (places : ℕ)
      (serves : Serves 𝓢 own rows columns places) where
    abbrev own_rows : List ℕ
    own_rows = used 𝓢 own.rows rows

    abbrev own_columns : List ℕ
    own_columns = used 𝓢 own.columns columns

    -- the coordinates that the key uses are a point for it
    pub used-point : PointOf 𝓢.width own.rows own.columns (used 𝓢 own.rows rows) (used 𝓢 own.columns columns)
    used-point =
        record {
          rows_are = length-take-le (𝓢.width * own.rows) rows (enough-numbers own.rows rows serves.rows_given);
          columns-are = length-take-le (𝓢.width * own.columns) columns (enough-numbers own.columns columns serves.columns_given);
          rows-below = below-take p (𝓢.width * own.rows) rows serves.rows_given.below;
          columns-below = below-take p (𝓢.width * own.columns) columns serves.columns_given.below;
        }

    pub values-used : (i : ℕ) → i < length (key_arrays key) →
        values_at 𝓢 (key_arrays key) (used 𝓢 own.rows rows) (used 𝓢 own.columns columns) i
        ≡ values_at 𝓢 (key_arrays key) rows columns i
    values-used i l =
        let fits = (acceptance key own accepted).well_formed.arrays_fit i l in
        ap₂ (λ (r c : List Element).
        values_by (λ part. extension 𝓢.arithmetic (λ x y. 𝓢.embed (dense_of (key_arrays key) i part x y)) r c))
        (leading own.rows rows serves.rows_given (array_at (key_arrays key) i).row_bits fits.rows_at_most)
        (leading own.columns columns serves.columns_given (array_at (key_arrays key) i).column_bits fits.columns_at_most)

    pub last-used : last_values 𝓢 key (used 𝓢 own.rows rows) (used 𝓢 own.columns columns) ≡ last_values 𝓢 key rows columns
    last-used =
        values-used (last_of (key_arrays key)) (omega (arith, (acceptance key own accepted).last_of_shape.some_array))

    -- the triple by the whole point: the values there, times what the coordinates behind the key's own weigh
    pub filled-whole : filled_values 𝓢 key own rows columns
        ≡ multiplied 𝓢 (last_values 𝓢 key rows columns)
        (𝓢.arithmetic.mul (weight 𝓢.arithmetic 0 (drop own.rows (𝓢.elements rows)))
        (weight 𝓢.arithmetic 0 (drop own.columns (𝓢.elements columns))))
    filled-whole =
        ap₂ (multiplied 𝓢) last-used
        (ap₂ 𝓢.arithmetic.mul (unused-weight own.rows rows serves.rows_given)
        (unused-weight own.columns columns serves.columns_given))

    -- evaluated at its own coordinates, on a sheet of so many places
    module _ (sheet : List ℕ) (lent : length sheet ≡ places) where
      pub own-answered : (evaluated 𝓢 key (used 𝓢 own.rows rows) (used 𝓢 own.columns columns) sheet).answer
          ≡ given (counted_for 𝓢 key (last_values 𝓢 key (used 𝓢 own.rows rows) (used 𝓢 own.columns columns)))
      own-answered =
          answer-given 𝓢 key own_rows own_columns sheet own accepted (point-of 𝓢.width own_rows own_columns own used-point)
          (omega (arith, serves.room))

      pub own-written : own_sheet 𝓢 key own rows columns sheet ≡ written_by 𝓢 key rows columns own.arrays sheet
      own-written =
          sheet-given 𝓢 key own_rows own_columns sheet own accepted (point-of 𝓢.width own_rows own_columns own used-point)
          (omega (arith, serves.room))
          ∙ laid_same 0 _ _ own.arrays sheet
          (λ i l. ap (words_of 𝓢) (values-used i (omega (arith, arrays-counted key own accepted))))
