-- The coordinates of the rows and of the columns as one list.
use Prim.Native.Nat.{ℕ, ◌-◌, ◌≤◌}
use mathlib.Core.List.{List}
use mathlib.Core.Path.{◌≡◌}
use native.Mathlib.Omega.{arith}
use lib.ListN.{length, take, drop, length-drop}
use lib.Seq.{take_all}
use Rattle.key.proofs.Acceptance.{acceptance}
use Rattle.location.specs.Inner.{Comparable}

-- they are at most 60
pub few-coordinates : (first second : List ℕ) (n : ℕ) (point : List ℕ) (places : ℕ) → Comparable first second n point places →
    length point ≤ 60
few-coordinates first second n point places comparable =
    let well = (acceptance first comparable.one comparable.both.accepts).well_formed in
    let well' = (acceptance second comparable.other comparable.both.accepts').well_formed in
    omega (
      arith,
      comparable.is_point.count,
      comparable.is_point.rows_are,
      well.rows_at_most_30,
      well.columns_at_most_30,
      well'.rows_at_most_30,
      well'.columns_at_most_30,
    )

-- all that is behind the first n of them
pub all-behind : (n : ℕ) (point : List ℕ) → take (length point - n) (drop n point) ≡ drop n point
all-behind n point = take_all (length point - n) (drop n point) (omega (arith, length-drop n point))
