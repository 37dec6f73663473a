-- The way in some places, at the start of which the coordinates stand: what is asked for it and for the cell, and what they come to.
use Prim.Native.Nat.{ℕ, ◌+◌, ◌≤◌}
use mathlib.Core.List.{List, ◌++◌}
use mathlib.Core.Path.{◌≡◌, sym, ap, subst, ◌∙◌}
use native.Mathlib.Omega.{arith}
use lib.ListN.{length, take, drop, length-append}
use lib.Seq.{take_at}
use Rattle.algebra.specs.Points.{Below}
use Rattle.field.specs.Scalars.{prime}
use Rattle.comparison.specs.Compare.{different, compared}
use Rattle.location.specs.Inner.{BothAccepted, Comparable, WrittenOn, WrittenOver}
use Rattle.location.specs.Locate.{same_at, settled, Found, cell_point, cell_at, cell_found}
use Rattle.location.proofs.CellDiffers.{cell-point}
use Rattle.location.proofs.FoundDifferent.{found-different}
use Rattle.location.proofs.JoinedPoint.{few-coordinates}
use Rattle.location.proofs.LocateCases.{cell-left}
use Rattle.location.proofs.SettledCoordinates.{settled-length, settled-bits}

module _ (first second rows columns sheet : List ℕ) (differ : (compared prime first second rows columns sheet).answer ≡ different) where
  abbrev known : Comparable first second (length rows) (rows ++ columns) (length sheet)
  known = found-different first second rows columns sheet differ

  pub few-there : length rows + length columns ≤ 60
  few-there = omega (arith, few-coordinates _ _ _ _ (length sheet) known, length-append rows columns)

  module _ (places : List ℕ) (joined-there : take (length rows + length columns) places ≡ rows ++ columns) where
    pub way-ready : Comparable first second (length rows) (take (length rows + length columns) places) (length sheet)
    way-ready = subst (λ (x : List ℕ). Comparable first second (length rows) x (length sheet)) (sym joined-there) known

    -- what is there at the end of the way
    module _ (point after : List ℕ)
        (settled_is : point ≡ settled (same_at first second (length rows) sheet) (take (length rows + length columns) places))
        (over : WrittenOver first second sheet after) where
      abbrev m : ℕ
      m = length rows + length columns

      is-cell-point : point ≡ cell_point first second rows columns sheet
      is-cell-point = settled_is ∙ ap (settled (same_at first second (length rows) sheet)) joined-there

      as_many : length point ≡ length rows + length columns
      as_many =
          ap length is-cell-point ∙ settled-length (same_at first second (length rows) sheet) (rows ++ columns) ∙ length-append rows columns

      pub enough-there : length rows + length columns ≤ length (point ++ drop (length rows + length columns) places)
      enough-there = omega (arith, as_many, length-append point (drop m places))

      start_is : take (length rows + length columns) (point ++ drop (length rows + length columns) places)
          ≡ cell_point first second rows columns sheet
      start_is = take_at point (drop m places) m as_many ∙ is-cell-point

      written-there : WrittenOn known.one known.other sheet after
      written-there = over known.one known.other known.both.accepts known.both.accepts'

      pub cell-ready :
          Comparable first second (length rows)
          (take (length rows + length columns) (point ++ drop (length rows + length columns) places)) (length after) ×
          Below 2 (take (length rows + length columns) (point ++ drop (length rows + length columns) places))
      cell-ready =
          subst (λ (x : List ℕ). Comparable first second (length rows) x (length after) × Below 2 x) (sym start_is) (
            record {
              one = known.one;
              other = known.other;
              both = subst (BothAccepted first second known.one known.other) (sym written-there.as_long) known.both;
              is_point = cell-point first second rows columns sheet differ;
            },
            settled-bits (same_at first second (length rows) sheet) (rows ++ columns),
          )

      pub cell-answered : (answer : Found) (ended : List ℕ) →
          let x = take (length rows + length columns) (point ++ drop (length rows + length columns) places) in
          answer ≡ (cell_at first second (take (length rows) x) (drop (length rows) x) after).answer →
          ended ≡ (cell_at first second (take (length rows) x) (drop (length rows) x) after).sheet →
          (answer ≡ (cell_found first second rows columns sheet).answer) × (ended ≡ (cell_found first second rows columns sheet).sheet)
      cell-answered answer ended told left = cell-left first second rows columns sheet differ after written-there answer ended _ start_is told left
