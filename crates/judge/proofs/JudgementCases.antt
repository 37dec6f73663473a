-- What a point, a place and a sheet are held to, case by case.
use Prim.Native.Nat.{ℕ, ◌+◌, ◌*◌, ◌^◌, ◌≤◌, ◌<◌}
use mathlib.Core.Bool.{true, false}
use mathlib.Core.List.{List, ◌++◌}
use mathlib.Core.Path.{◌≡◌}
use native.Mathlib.Omega.{arith}
use borrow.Author.Tests.{lt-ltb, le-ltb, eq-eqb, ne_eqb}
use lib.Dec.{leb}
use lib.ListN.{length, length-append}
use Rattle.refusal.specs.Outcome.{given, refuse}
use Rattle.refusal.specs.declared.Reason.{Reason}
use Rattle.key.specs.declared.Counts.{Counts}
use Rattle.judge.specs.Judged.{first_over, point_judged, place_judged, sheet_judged}
use Rattle.judge.proofs.FirstOver.{over_first, over-second}

module _ (width places : ℕ) (counts : Counts) where
  pub sheet-short : places < width * counts.arrays →
      sheet_judged width places counts ≡ refuse Reason.SheetTooShort (width * counts.arrays)
  unfolding sheet_judged
  sheet-short l = rw (lt-ltb places (width * counts.arrays) l)

  pub sheet-enough : width * counts.arrays ≤ places → sheet_judged width places counts ≡ given counts
  unfolding sheet_judged
  sheet-enough l = rw (le-ltb places (width * counts.arrays) l)

module _ (row column : ℕ) (counts : Counts) where
  pub row-outside : leb (2 ^ counts.rows) row ≡ true → place_judged row column counts ≡ refuse Reason.AddressOutside 0
  unfolding place_judged
  row-outside e = rw e

  pub column-outside : leb (2 ^ counts.rows) row ≡ false → leb (2 ^ counts.columns) column ≡ true →
      place_judged row column counts ≡ refuse Reason.AddressOutside 1
  unfolding place_judged
  column-outside e f = rw (e, f)

  pub both-inside : leb (2 ^ counts.rows) row ≡ false → leb (2 ^ counts.columns) column ≡ false →
      place_judged row column counts ≡ given counts
  unfolding place_judged
  both-inside e f = rw (e, f)

module _ (width : ℕ) (rows columns : List ℕ) (counts : Counts) where
  pub row-count-wrong : (length rows ≡ width * counts.rows → ⊥) →
      point_judged width rows columns counts ≡ refuse Reason.RowCountWrong (length rows)
  unfolding point_judged
  row-count-wrong d = rw (ne_eqb (length rows) (width * counts.rows) d)

  module _ (rows_are : length rows ≡ width * counts.rows) where
    pub column-count-wrong : (length columns ≡ width * counts.columns → ⊥) →
        point_judged width rows columns counts ≡ refuse Reason.ColumnCountWrong (length columns)
    unfolding point_judged
    column-count-wrong d = rw (eq-eqb (length rows) (width * counts.rows) rows_are, ne_eqb (length columns) (width * counts.columns) d)

    module _ (columns-are : length columns ≡ width * counts.columns) where
      over : (i : ℕ) → first_over (rows ++ columns) ≡ i → i < length (rows ++ columns) →
          point_judged width rows columns counts ≡ refuse Reason.CoordinateTooGreat i
      unfolding point_judged
      over i e l =
          rw (
            eq-eqb (length rows) (width * counts.rows) rows_are,
            eq-eqb (length columns) (width * counts.columns) columns-are,
            e,
            lt-ltb i (length (rows ++ columns)) l,
          )

      pub row-over : first_over rows < length rows →
          point_judged width rows columns counts ≡ refuse Reason.CoordinateTooGreat (first_over rows)
      row-over l = over (first_over rows) (over_first rows columns l) (omega (arith, length-append rows columns))

      pub column-over : length rows ≤ first_over rows → first_over columns < length columns →
          point_judged width rows columns counts ≡ refuse Reason.CoordinateTooGreat (length rows + first_over columns)
      column-over m l =
          over (length rows + first_over columns) (over-second rows columns m) (omega (arith, length-append rows columns))

      pub point-given : length rows ≤ first_over rows → length columns ≤ first_over columns →
          point_judged width rows columns counts ≡ given counts
      unfolding point_judged
      point-given m l =
          rw (
            eq-eqb (length rows) (width * counts.rows) rows_are,
            eq-eqb (length columns) (width * counts.columns) columns-are,
            le-ltb (first_over (rows ++ columns)) (length (rows ++ columns))
                (omega (arith, over-second rows columns m, length-append rows columns)),
          )
