-- What the sheet holds behind the whole pass: every array's extensions, those of the last among them.
use Prim.Native.Nat.{ℕ, ◌-◌, ◌*◌, ◌≤◌, ◌<◌}
use mathlib.Core.List.{List}
use mathlib.Core.Path.{◌≡◌, sym, ap, ◌∙◌}
use native.Mathlib.Omega.{arith}
use lib.ListN.{length}
use Rattle.field.specs.Scalars.{Scalars, Lawful}
use Rattle.arrays.specs.Side.{Side, coordinates}
use Rattle.key.specs.Accepted.{Accepted}
use Rattle.key.specs.KeyArrays.{key_arrays}
use Rattle.key.proofs.Acceptance.{acceptance}
use Rattle.judge.specs.Inner.{AtPoint}
use Rattle.evaluation.specs.Evaluate.{ValuesOf, last_of, values_at, last_values}
use Rattle.evaluation.specs.Inner.{sheet_values, Filled, passed_values}
use Rattle.evaluation.specs.Sheet.{words_of, places_of, laid}
use Rattle.evaluation.proofs.PassIsExtension.{AsCoordinates, coordinates-weigh, passed-extended}
use Rattle.evaluation.proofs.SheetDuringPass.{Passing, passing-filled, on_sheet}
use Rattle.evaluation.proofs.WordsOnSheet.{laid_same}

module _ (𝓢 : Scalars) (𝓛 : Lawful 𝓢) (key rows columns : List ℕ) (point : AtPoint 𝓢 key rows columns) (arrays : ℕ)
    (counted : arrays ≡ length (key_arrays key)) where
  accepts : Accepted key point.counts
  accepts = acceptance key point.counts point.accepted

  some_array : 0 < arrays
  some_array = omega (arith, accepts.last_of_shape.some_array)

  -- what the pass writes on sides that weigh as the point's coordinates do
  module _ (S S' : Side 𝓢.arithmetic) (alike : AsCoordinates 𝓢.arithmetic point.counts.rows (𝓢.elements rows) S)
      (alike' : AsCoordinates 𝓢.arithmetic point.counts.columns (𝓢.elements columns) S') where
    extended : (i : ℕ) → i < length (key_arrays key) →
        passed_values 𝓢 (key_arrays key) S S' i ≡ values_at 𝓢 (key_arrays key) rows columns i
    extended i l =
        passed-extended 𝓢 𝓛 (key_arrays key) point.counts.rows point.counts.columns accepts.well_formed i l rows columns
        S S' point.rows_given.enough point.columns_given.enough alike alike'

    pub sheet-extended : (lent after : List ℕ) →
        after ≡ laid 0 (λ i. words_of 𝓢 (passed_values 𝓢 (key_arrays key) S S' i)) arrays lent →
        after ≡ laid 0 (λ i. words_of 𝓢 (values_at 𝓢 (key_arrays key) rows columns i)) arrays lent
    sheet-extended lent after passed =
        passed
        ∙ laid_same 0 (λ i. words_of 𝓢 (passed_values 𝓢 (key_arrays key) S S' i))
        (λ i. words_of 𝓢 (values_at 𝓢 (key_arrays key) rows columns i)) arrays lent
        (λ i l. ap (words_of 𝓢) (extended i (omega arith)))

  -- the coordinates themselves, as sides
  abbrev S : Side 𝓢.arithmetic
  S = coordinates 𝓢.arithmetic (𝓢.elements rows)

  abbrev S' : Side 𝓢.arithmetic
  S' = coordinates 𝓢.arithmetic (𝓢.elements columns)

  by-coordinates : (i : ℕ) → i < length (key_arrays key) →
      passed_values 𝓢 (key_arrays key) S S' i ≡ values_at 𝓢 (key_arrays key) rows columns i
  by-coordinates =
      extended S S' (coordinates-weigh 𝓢.arithmetic 𝓛.field.ring point.counts.rows (𝓢.elements rows))
      (coordinates-weigh 𝓢.arithmetic 𝓛.field.ring point.counts.columns (𝓢.elements columns))

  module _ (lent after : List ℕ) (room : places_of 𝓢 * arrays ≤ length lent)
      (written : after ≡ laid 0 (λ i. words_of 𝓢 (values_at 𝓢 (key_arrays key) rows columns i)) arrays lent) where
    whole : Passing 𝓢 𝓛 (key_arrays key) S S' lent arrays after
    whole =
        record {
          holds =
              written
              ∙ sym (laid_same 0 (λ i. words_of 𝓢 (passed_values 𝓢 (key_arrays key) S S' i))
              (λ i. words_of 𝓢 (values_at 𝓢 (key_arrays key) rows columns i)) arrays lent
              (λ i l. ap (words_of 𝓢) (by-coordinates i (omega arith))));
          most = omega arith;
        }

    -- there is a last array, and its values stand on the sheet
    pub last-filled : (0 < arrays) × Filled 𝓢 arrays after
    last-filled = (some_array, passing-filled 𝓢 𝓛 (key_arrays key) S S' lent (rw (sym counted) room) arrays after whole)

    pub last-extended : (values : ValuesOf 𝓢) → values ≡ sheet_values 𝓢 after (arrays - 1) →
        values ≡ last_values 𝓢 key rows columns
    last-extended values e =
        let last : arrays - 1 ≡ last_of (key_arrays key) = omega arith in
        e
        ∙ on_sheet 𝓢 𝓛 (key_arrays key) S S' lent (rw (sym counted) room) arrays after whole (arrays - 1) (omega (arith, some_array))
        ∙ by-coordinates (arrays - 1) (omega (arith, some_array))
        ∙ ap (values_at 𝓢 (key_arrays key) rows columns) last
