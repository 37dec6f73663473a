-- The sides of a point, prepared as tables, in any field: they weigh as its coordinates do.
use Prim.Native.Nat.{ℕ, suc, ◌-◌, ◌<◌, ◌≤◌}
use mathlib.Core.List.{List}
use mathlib.Core.Path.{◌≡◌, ap, ◌∙◌}
use native.Mathlib.Nat.{mul-le-mul_left}
use native.Mathlib.Omega.{arith}
use lib.ListN.{length, drop, length-drop}
use lib.Seq.{take_all}
use Rattle.field.specs.Scalars.{Scalars, element_at}
use Rattle.field.proofs.Elements.{element_valid}
use Rattle.records.specs.declared.Shape.{Shape}
use Rattle.multilinear.specs.Weight.{weight}
use Rattle.arrays.proofs.SidesSplit.{factors-split}
use Rattle.scalar.specs.Elements.{Elements, LawfulElements}
use Rattle.weights.specs.Side.{pairs, prepared, Tabled}
use Rattle.weights.proofs.TableWeights.{weighs-from}
use Rattle.key.specs.KeyArrays.{key_arrays}
use Rattle.judge.specs.Inner.{Coordinates, AtPoint}
use Rattle.evaluation.specs.Evaluate.{values_at}
use Rattle.evaluation.specs.Inner.{Sides, passed_values}
use Rattle.evaluation.specs.Sheet.{words_of, laid}
use Rattle.evaluation.proofs.PassIsExtension.{AsCoordinates}
use Rattle.evaluation.proofs.SheetAfterPass.{sheet-extended}

module _ {E : Type 0} (𝓔 : Elements E) (𝓛 : LawfulElements E 𝓔) where
  abbrev 𝓢 : Scalars
  𝓢 = 𝓔.scalars

  -- the coordinates of a side are elements of the field
  pub coordinate-valid : (n : ℕ) (numbers : List ℕ) → Coordinates 𝓢 n numbers → (i : ℕ) → i < length (𝓢.elements numbers) →
      𝓛.lawful.field.ring.Valid (element_at 𝓢 numbers i)
  coordinate-valid n numbers side i l =
      let inside : suc i ≤ length (𝓢.elements numbers) = omega arith in
      element_valid 𝓢 𝓛.lawful numbers i (omega (arith, side.whole, mul-le-mul_left 𝓢.width inside)) side.below

  prepared-weigh : (n : ℕ) (numbers : List ℕ) (table : List E) → Coordinates 𝓢 n numbers → Tabled 𝓔 (𝓢.elements numbers) table →
      AsCoordinates 𝓢.arithmetic n (𝓢.elements numbers) (prepared 𝓔 table)
  prepared-weigh n numbers table side tabled =
      record {
        splits = factors-split 𝓢.arithmetic 𝓛.lawful.field.ring (pairs 𝓔 table);
        weighs = λ k x l.
            weighs-from 𝓔 𝓛 (𝓢.elements numbers) table (coordinate-valid n numbers side) tabled 0 k x (omega (arith, side.enough));
      }

  -- what a number weighs by the coordinates behind the first n, by the table and by themselves
  pub behind-weighed : (n : ℕ) (numbers : List ℕ) (table : List E) → Coordinates 𝓢 n numbers → Tabled 𝓔 (𝓢.elements numbers) table → (x : ℕ) →
      (prepared 𝓔 table).factor (length (𝓢.elements numbers)) n x ≡ weight 𝓢.arithmetic x (drop n (𝓢.elements numbers))
  behind-weighed n numbers table side tabled x =
      let all = 𝓢.elements numbers in
      weighs-from 𝓔 𝓛 all table (coordinate-valid n numbers side) tabled n (length all - n) x (omega (arith, side.enough))
      ∙ ap (weight 𝓢.arithmetic x) (take_all (length all - n) (drop n all) (omega (arith, length-drop n all)))

  module _ (key rows columns : List ℕ) (point : AtPoint 𝓢 key rows columns) (rowwise columnwise : List E)
      (tabled : Tabled 𝓔 (𝓢.elements rows) rowwise) (tabled' : Tabled 𝓔 (𝓢.elements columns) columnwise) where
    -- they serve the key, as sides of as many coordinates as there are
    pub sides-ready : (most : Shape) → most.rows ≡ length (𝓢.elements rows) → most.columns ≡ length (𝓢.elements columns) →
        Sides 𝓔 key most rowwise columnwise
    sides-ready most rows_are columns-are =
        record {
          counts = point.counts;
          accepted = point.accepted;
          rows_enough = rw rows_are point.rows_given.enough;
          columns_enough = rw columns-are point.columns_given.enough;
          rows_ready = rw rows_are tabled.side;
          columns_ready = rw columns-are tabled'.side;
        }

    -- what the pass writes on them
    pub sheet-prepared : (arrays : ℕ) → arrays ≡ length (key_arrays key) → (lent after : List ℕ) →
        after ≡ laid 0 (λ i. words_of 𝓢 (passed_values 𝓢 (key_arrays key) (prepared 𝓔 rowwise) (prepared 𝓔 columnwise) i)) arrays lent →
        after ≡ laid 0 (λ i. words_of 𝓢 (values_at 𝓢 (key_arrays key) rows columns i)) arrays lent
    sheet-prepared arrays counted =
        sheet-extended 𝓢 𝓛.lawful key rows columns point arrays counted (prepared 𝓔 rowwise) (prepared 𝓔 columnwise)
        (prepared-weigh point.counts.rows rows rowwise point.rows_given tabled)
        (prepared-weigh point.counts.columns columns columnwise point.columns_given tabled')
