-- The agreement bound at two keys of one row bit and one column bit, one cell at the last place against none; and at two keys of unequal
-- shapes, a cell alone against its growth at the last place. Nothing that it assumes stands in the way. The first two are compared at
-- two points too, with one sheet handed on.
use Prim.Native.Nat.{ℕ, ◌≤◌}
use mathlib.Core.Bool.{Bool, true, false}
use mathlib.Core.List.{List, [], ◌∷◌}
use mathlib.Core.Path.{◌≡◌, refl}
use native.Mathlib.Omega.{arith}
use lib.ListN.{replicate}
use Rattle.algebra.specs.Groups.{all_below}
use Rattle.algebra.specs.Points.{count_points}
use Rattle.field.specs.Fp.{p}
use Rattle.field.specs.Scalars.{prime}
use Rattle.field.proofs.PrimeLawful.{prime-lawful}
use Rattle.arrays.specs.Arrays.{A, B}
use Rattle.comparison.specs.AgreementBound.{AcceptedKey, LongEnough, Sheets, answer_at, is_same, DifferInCell}
use Rattle.comparison.specs.SeveralPoints.{same_at_each}
use Rattle.comparison.proofs.Agreement.{prime-agreement}
use Rattle.comparison.proofs.Examples.{corner, none}
use Rattle.comparison.proofs.ExamplesOfGrowth.{small, grown}
use Rattle.comparison.proofs.SeveralPoints.{several}
use Rattle.comparison.proofs.SheetHandedOn.{handed_on, handed-on}
use Rattle.comparison.proofs.Computing.{comparing}

corner-accepted : AcceptedKey 1 1 corner
unfolding comparing
corner-accepted =
    record {
      counts = record { arrays = 1; cells = 1; calls = 0; rows = 1; columns = 1 };
      accepted = refl;
      row_bits = refl;
      column_bits = refl;
    }

none-accepted : AcceptedKey 1 1 none
unfolding comparing
none-accepted =
    record {
      counts = record { arrays = 1; cells = 0; calls = 0; rows = 1; columns = 1 };
      accepted = refl;
      row_bits = refl;
      column_bits = refl;
    }

sheets : Sheets prime 2 corner none
unfolding comparing
sheets =
    record {
      lent = λ point. replicate 3 9;
      long_enough = λ point at. record { for_first = omega arith; for_second = omega arith };
    }

differ : DifferInCell 1 1 corner none
unfolding comparing
differ =
    record {
      part = B;
      differ =
          record { row = 1; column = 1; row_inside = omega arith; column_inside = omega arith; unequal = λ e. omega (arith, e) };
    }

-- p² - (p - 1)², of the p² points
corner-bounded : count_points p 2 (λ point. is_same (answer_at prime 1 corner none point (replicate 3 9))) ≤ 4294967293
unfolding sheets
corner-bounded = (prime-agreement corner none 1 1 1 1 corner-accepted none-accepted).differ sheets differ

-- ---- two points

three-places : LongEnough prime corner none (replicate 3 9)
unfolding comparing
three-places = record { for_first = omega arith; for_second = omega arith }

-- is it "same" at both of two points, one sheet of three places being handed on from the first to the second?
abbrev same_at_both : List ℕ → Bool
same_at_both = same_at_each prime 1 1 2 corner none (handed_on prime 1 1 corner none (replicate 3 9))

-- (p² - (p - 1)²)², of the p⁴ lists of two points
corner-bounded-twice : count_points p 4 same_at_both ≤ 18446744047939747849
unfolding handed-on
corner-bounded-twice =
    (several prime prime-lawful corner none 1 1 1 1 2 corner-accepted none-accepted).differ
    (handed-on prime 1 1 corner none (replicate 3 9) 2 three-places) differ

-- the cell's weight is the product of a point's two numbers: zero at (0, 5) and at (7, 0), not at (2, 3)
both-same : same_at_both (0 ∷ 5 ∷ 7 ∷ 0 ∷ []) ≡ true
unfolding comparing all_below is_same handed_on
both-same = refl

first-not-same : same_at_both (2 ∷ 3 ∷ 7 ∷ 0 ∷ []) ≡ false
unfolding comparing all_below is_same handed_on
first-not-same = refl

second-not-same : same_at_both (0 ∷ 5 ∷ 2 ∷ 3 ∷ []) ≡ false
unfolding comparing all_below is_same handed_on
second-not-same = refl

-- ---- unequal shapes

small-accepted : AcceptedKey 0 0 small
unfolding comparing
small-accepted =
    record {
      counts = record { arrays = 1; cells = 1; calls = 0; rows = 0; columns = 0 };
      accepted = refl;
      row_bits = refl;
      column_bits = refl;
    }

grown-accepted : AcceptedKey 1 1 (grown 1 1)
unfolding comparing
grown-accepted =
    record {
      counts = record { arrays = 2; cells = 1; calls = 1; rows = 1; columns = 1 };
      accepted = refl;
      row_bits = refl;
      column_bits = refl;
    }

grown-sheets : Sheets prime 2 small (grown 1 1)
unfolding comparing
grown-sheets =
    record {
      lent = λ point. replicate 6 9;
      long_enough = λ point at. record { for_first = omega arith; for_second = omega arith };
    }

-- beyond its one row and one column the smaller matrix is zero, and the larger is not
grown-differ : DifferInCell 1 1 small (grown 1 1)
unfolding comparing
grown-differ =
    record {
      part = A;
      differ =
          record { row = 1; column = 1; row_inside = omega arith; column_inside = omega arith; unequal = λ e. omega (arith, e) };
    }

grown-bounded : count_points p 2 (λ point. is_same (answer_at prime 1 small (grown 1 1) point (replicate 6 9))) ≤ 4294967293
unfolding grown-sheets
grown-bounded = (prime-agreement small (grown 1 1) 0 0 1 1 small-accepted grown-accepted).differ grown-sheets grown-differ
