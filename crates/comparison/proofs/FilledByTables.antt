-- A key's triple in a comparison, by the tables of the two sides of the point, in any field; and what a pass over the key asks.
use Prim.Native.Nat.{ℕ, ◌-◌, ◌*◌, ◌≤◌, ◌<◌}
use mathlib.Core.List.{List}
use mathlib.Core.Path.{◌≡◌, sym, ap, ap₂, subst, ◌∙◌}
use native.Mathlib.Omega.{arith}
use lib.ListN.{length}
use Rattle.algebra.specs.Arithmetic.{Arithmetic}
use Rattle.algebra.specs.Field.{Ring}
use Rattle.field.specs.Scalars.{Scalars}
use Rattle.records.specs.declared.Shape.{Shape}
use Rattle.scalar.specs.Elements.{Elements, LawfulElements}
use Rattle.multilinear.specs.Eq.{bitwise}
use Rattle.weights.specs.Side.{pairs, prepared, Tabled}
use Rattle.key.specs.KeyArrays.{key_arrays}
use Rattle.key.specs.declared.Counts.{Counts}
use Rattle.key.proofs.FactorLimits.{key-factors-few}
use Rattle.judge.specs.Inner.{AtPoint}
use Rattle.evaluation.specs.Evaluate.{ValuesOf, last_values}
use Rattle.evaluation.specs.Inner.{Sides, sheet_values, Filled, passed_by, written_by}
use Rattle.evaluation.specs.Sheet.{places_of, laid}
use Rattle.evaluation.proofs.EvaluatePromises.{arrays-counted}
use Rattle.evaluation.proofs.PreparedSides.{behind-weighed, sides-ready, sheet-prepared}
use Rattle.evaluation.proofs.SheetAfterPass.{last-filled, last-extended}
use Rattle.evaluation.proofs.WordsOnSheet.{laid-length}
use Rattle.comparison.specs.Filled.{multiplied, filled_values}
use Rattle.comparison.specs.Inner.{Evaluable, factors_at, unused_by}
use Rattle.comparison.proofs.UsedCoordinates.{filled-whole}

-- what a pass over the key asks of its counts and of the point
module _ (𝓢 : Scalars) (key : List ℕ) (own : Counts) (rows columns : List ℕ) (places : ℕ)
    (evaluable : Evaluable 𝓢 key own rows columns places) where
  pub arrays-are : own.arrays ≡ length (key_arrays key)
  arrays-are = arrays-counted key own evaluable.accepted

  pub point-is : AtPoint 𝓢 key rows columns
  point-is =
      record {
        counts = own;
        accepted = evaluable.accepted;
        rows_given = evaluable.serves.rows_given;
        columns_given = evaluable.serves.columns_given;
      }

  -- 64 bits have room for the factors of two keys
  pub factors-few : factors_at 𝓢 key own rows columns ≤ 7864500
  factors-few =
      omega (
        arith,
        key-factors-few key own evaluable.accepted,
        evaluable.serves.rows_given.few,
        evaluable.serves.columns_given.few,
      )

  -- a sheet on which another key's arrays are written has as many places
  pub still-evaluable : (words : ℕ → List ℕ) (arrays : ℕ) (sheet after : List ℕ) → length sheet ≡ places → after ≡ laid 0 words arrays sheet →
      Evaluable 𝓢 key own rows columns (length after)
  still-evaluable words arrays sheet after lent written =
      subst (Evaluable 𝓢 key own rows columns) (sym (ap length written ∙ laid-length 0 words arrays sheet ∙ lent)) evaluable

-- the pass over the key, by the tables of the two sides
module _ {E : Type 0} (𝓔 : Elements E) (𝓛 : LawfulElements E 𝓔) (key : List ℕ) (own : Counts) (rows columns : List ℕ) (places : ℕ)
    (evaluable : Evaluable 𝓔.scalars key own rows columns places) (rowwise columnwise : List E)
    (tabled : Tabled 𝓔 (𝓔.scalars.elements rows) rowwise) (tabled' : Tabled 𝓔 (𝓔.scalars.elements columns) columnwise) where
  abbrev 𝓢 : Scalars
  𝓢 = 𝓔.scalars

  abbrev counted : own.arrays ≡ length (key_arrays key)
  counted = arrays-are 𝓢 key own rows columns places evaluable

  abbrev point : AtPoint 𝓢 key rows columns
  point = point-is 𝓢 key own rows columns places evaluable

  -- what it asks of them, and what they weigh of the coordinates that the key doesn't use
  module _ (most : Shape) (rows_are : most.rows ≡ length (𝓢.elements rows)) (columns-are : most.columns ≡ length (𝓢.elements columns))
    where
      pub sides-are : Sides 𝓔 key most rowwise columnwise
      sides-are = sides-ready 𝓔 𝓛 key rows columns point rowwise columnwise tabled tabled' most rows_are columns-are

      pub triple-is : (values : ValuesOf 𝓢) → values ≡ last_values 𝓢 key rows columns →
          multiplied 𝓢 values (unused_by 𝓔 own most rowwise columnwise) ≡ filled_values 𝓢 key own rows columns
      triple-is values are =
          let serves = evaluable.serves in
          ap₂ (multiplied 𝓢) are
          (ap₂ 𝓢.arithmetic.mul
          (ap (λ (n : ℕ). (prepared 𝓔 rowwise).factor n own.rows 0) rows_are
          ∙ behind-weighed 𝓔 𝓛 own.rows rows rowwise serves.rows_given tabled 0)
          (ap (λ (n : ℕ). (prepared 𝓔 columnwise).factor n own.columns 0) columns-are
          ∙ behind-weighed 𝓔 𝓛 own.columns columns columnwise serves.columns_given tabled' 0))
          ∙ sym (filled-whole 𝓢 𝓛.lawful key own evaluable.accepted rows columns places serves)

  -- what it leaves on a sheet
  module _ (lent after : List ℕ) (long : length lent ≡ places) (passed : after ≡ passed_by 𝓔 key rowwise columnwise own.arrays lent) where
    room : places_of 𝓢 * own.arrays ≤ length lent
    room = omega (arith, evaluable.serves.room)

    pub written_is : after ≡ written_by 𝓢 key rows columns own.arrays lent
    written_is = sheet-prepared 𝓔 𝓛 key rows columns point rowwise columnwise tabled tabled' own.arrays counted lent after passed

    pub last-stands : (0 < own.arrays) × Filled 𝓢 own.arrays after
    last-stands = last-filled 𝓢 𝓛.lawful key rows columns point own.arrays counted lent after room written_is

    module _ (values : ValuesOf 𝓢) (are : values ≡ sheet_values 𝓢 after (own.arrays - 1)) where
      pub last-is : values ≡ last_values 𝓢 key rows columns
      last-is = last-extended 𝓢 𝓛.lawful key rows columns point own.arrays counted lent after room written_is values are

-- where the key uses all coordinates, they weigh 1, and nothing is multiplied
module _ {E : Type 0} (𝓔 : Elements E) (𝓛 : LawfulElements E 𝓔) (own : Counts) (most : Shape) (rowwise columnwise : List E)
    (none : most.rows - own.rows ≡ 0) (none' : most.columns - own.columns ≡ 0) where
  abbrev 𝓐 : Arithmetic
  𝓐 = 𝓔.scalars.arithmetic

  abbrev 𝓡 : Ring 𝓐
  𝓡 = 𝓛.lawful.field.ring

  weighs-one : unused_by 𝓔 own most rowwise columnwise ≡ 𝓐.unit
  unfolding bitwise
  weighs-one =
      ap₂ (λ (k k' : ℕ).
      𝓐.mul (bitwise 𝓐 (pairs 𝓔 rowwise) k own.rows 0) (bitwise 𝓐 (pairs 𝓔 columnwise) k' own.columns 0)) none none'
      ∙ 𝓡.mul-unit 𝓐.unit 𝓡.valid_unit

  pub all-used : (values : ValuesOf 𝓔.scalars) → 𝓡.Valid values.a → 𝓡.Valid values.b → 𝓡.Valid values.c →
      values ≡ multiplied 𝓔.scalars values (unused_by 𝓔 own most rowwise columnwise)
  all-used values a b c =
      sym (ap (multiplied 𝓔.scalars values) weighs-one
      ∙ (λ t. record {
        a = 𝓡.mul-unit values.a a t;
        b = 𝓡.mul-unit values.b b t;
        c = 𝓡.mul-unit values.c c t;
      }))
