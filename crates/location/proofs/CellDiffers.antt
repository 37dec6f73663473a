-- At the cell that the way leads to the keys' dense matrices differ.
use Prim.Native.Nat.{ℕ, ◌+◌, ◌^◌, ◌<◌}
use mathlib.Core.Bool.{false, false≢true}
use mathlib.Core.List.{List, ◌++◌}
use mathlib.Core.Path.{◌≡◌, refl, sym, ap, ap₂, subst, ◌∙◌}
use native.Mathlib.Omega.{arith}
use lib.ListN.{length, take, drop}
use lib.Seq.{take-append_seam, drop-append_seam}
use Rattle.algebra.specs.Points.{Below}
use Rattle.algebra.proofs.CoordinatesBelow.{below_more}
use Rattle.field.specs.Fp.{p}
use Rattle.field.specs.Scalars.{prime}
use Rattle.judge.specs.Judged.{together}
use Rattle.comparison.specs.AgreementBound.{is_same}
use Rattle.comparison.specs.Compare.{same, different, compared, likeness}
use Rattle.comparison.specs.Filled.{filled_values}
use Rattle.comparison.proofs.Likeness.{some-part}
use Rattle.location.specs.Cell.{DifferHere}
use Rattle.location.specs.Inner.{Comparable, PointOfTwo}
use Rattle.location.specs.Locate.{same_at, from_bits, cell_point}
use Rattle.location.proofs.FoundDifferent.{found-different}
use Rattle.location.proofs.OneOfTwoDiffers.{compared-there, first-extends, second-extends, one_of_two}
use Rattle.location.proofs.PointOfCell.{row_inside, column_inside, dense-there}
use Rattle.location.proofs.SettledCoordinates.{settled-length, settled-bits, settled-differs}

module _ (first second rows columns sheet : List ℕ) (differ : (compared prime first second rows columns sheet).answer ≡ different) where
  abbrev known : Comparable first second (length rows) (rows ++ columns) (length sheet)
  known = found-different first second rows columns sheet differ

  abbrev cell : List ℕ
  cell = cell_point first second rows columns sheet

  cell-count : length cell ≡ length rows + (together known.one known.other).columns
  cell-count = settled-length (same_at first second (length rows) sheet) (rows ++ columns) ∙ known.is_point.count

  cell-bits : Below 2 cell
  cell-bits = settled-bits (same_at first second (length rows) sheet) (rows ++ columns)

  pub cell-point : PointOfTwo known.one known.other (length rows) cell
  cell-point = record { rows_are = known.is_point.rows_are; count = cell-count; below = below_more 2 p cell (omega arith) cell-bits }

  -- at the given point the keys differ
  begun : same_at first second (length rows) sheet (rows ++ columns) ≡ false
  unfolding is_same
  begun =
      ap₂ (λ (r c : List ℕ). is_same (compared prime first second r c sheet).answer)
      (take-append_seam rows columns) (drop-append_seam rows columns)
      ∙ ap is_same differ

  -- so they do at the cell's
  ended : same_at first second (length rows) sheet cell ≡ false
  ended =
      settled-differs p (omega arith) (same_at first second (length rows) sheet) (rows ++ columns)
      (one_of_two first second known.one known.other sheet known.both (length rows) (length (rows ++ columns))
      known.is_point.rows_are known.is_point.count)
      known.is_point.below begun

  unlike : likeness prime (filled_values prime first known.one (take (length rows) cell) (drop (length rows) cell))
      (filled_values prime second known.other (take (length rows) cell) (drop (length rows) cell)) ≡ same → ⊥
  unfolding is_same
  unlike alike =
      false≢true (sym ended ∙ ap is_same
      (compared-there first second known.one known.other sheet known.both (length rows) cell cell-point ∙ alike))

  pub differ-here : DifferHere (together known.one known.other).rows (together known.one known.other).columns first second
      (from_bits (take (length rows) cell)) (from_bits (drop (length rows) cell))
  differ-here =
      let n = length rows in
      let n' = (together known.one known.other).columns in
      let (part, unequal) = some-part _ _ unlike in
      record {
        cell = record {
          part = part;
          differ = record {
            row = from_bits (take n cell);
            column = from_bits (drop n cell);
            row_inside = subst (λ (N : ℕ). from_bits (take n cell) < 2 ^ N) known.is_point.rows_are
                (row_inside n n' cell cell-count cell-bits);
            column_inside = column_inside n n' cell cell-count cell-bits;
            unequal = λ e. unequal
                (first-extends first second known.one known.other sheet known.both n cell cell-point part
                ∙ dense-there n n' cell cell-count cell-bits first part
                ∙ e
                ∙ sym (dense-there n n' cell cell-count cell-bits second part)
                ∙ sym (second-extends first second known.one known.other sheet known.both n cell cell-point part));
          };
        };
        row_is = refl;
        column_is = refl;
      }
