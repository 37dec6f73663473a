-- The bound of the counting theorem is reached: over the field of three elements, with at most two coordinates.
-- One value in the last corner against none: the extension of that one value is the product of the coordinates, so the two agree at
-- the points that have a coordinate 0. They are as many as the bound allows.
use Prim.Native.Nat.{ℕ, ◌+◌, ◌-◌, ◌^◌, ◌≤◌, ◌<◌}
use mathlib.Core.Bool.{cond, ◌&&◌}
use mathlib.Core.List.{List, [], ◌∷◌, map}
use mathlib.Core.Path.{◌≡◌, refl}
use borrow.Author.Tests.{eqb-true}
use lib.Dec.{eqb}
use Rattle.algebra.specs.Arithmetic.{sum_below}
use Rattle.algebra.specs.Points.{count_points}
use Rattle.algebra.proofs.FieldOfThree.{three, three-ring, three-field}
use Rattle.multilinear.specs.Agreement.{Differ, extension_at}
use Rattle.multilinear.specs.Extension.{weighted}
use Rattle.multilinear.specs.Matrix.{Matrix, noughts}
use Rattle.multilinear.specs.Weight.{weight}
use Rattle.multilinear.proofs.Agreement.{agreement-bound}

-- the number of points at which the extensions of two matrices of 2^n rows and 2^n' columns agree
abbrev agreeing : (n n' : ℕ) (first second : Matrix three) → ℕ
agreeing n n' first second =
    count_points 3 (n + n') (λ point. eqb (extension_at three (λ i. i) n first point) (extension_at three (λ i. i) n second point))

pub three-bound : (n n' : ℕ) (first second : Matrix three) → ((x y : ℕ) → first x y < 3) → ((x y : ℕ) → second x y < 3) →
    Differ three (2 ^ n) (2 ^ n') first second → agreeing n n' first second ≤ 3 ^ (n + n') - (3 - 1) ^ (n + n')
unfolding three-field three-ring
three-bound n n' first second ok ok' differ =
    agreement-bound three three-field n n' first second ok ok' differ _ (λ point e b t. eqb-true _ _ t)

-- a single 1, in the last of 2^n rows and 2^n' columns
abbrev corner : ℕ → ℕ → Matrix three
corner n n' x y = cond (eqb x (2 ^ n - 1) && eqb y (2 ^ n' - 1)) 1 0

-- what f says of the shapes with at most two coordinates
abbrev shapes : (ℕ → ℕ → ℕ) → List ℕ
shapes f = f 0 0 ∷ f 1 0 ∷ f 0 1 ∷ f 2 0 ∷ f 1 1 ∷ f 0 2 ∷ []

against-none : shapes (λ n n'. agreeing n n' (corner n n') (noughts three)) ≡ 0 ∷ 1 ∷ 1 ∷ 5 ∷ 5 ∷ 5 ∷ []
unfolding count_points sum_below weighted weight
against-none = refl

allowed : map (λ m. 3 ^ m - (3 - 1) ^ m) (0 ∷ 1 ∷ 1 ∷ 2 ∷ 2 ∷ 2 ∷ []) ≡ 0 ∷ 1 ∷ 1 ∷ 5 ∷ 5 ∷ 5 ∷ []
allowed = refl

-- equal matrices agree at every point
against-itself : shapes (λ n n'. agreeing n n' (corner n n') (corner n n')) ≡ 1 ∷ 3 ∷ 3 ∷ 9 ∷ 9 ∷ 9 ∷ []
unfolding count_points sum_below weighted weight
against-itself = refl
