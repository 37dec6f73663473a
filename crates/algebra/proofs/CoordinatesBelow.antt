-- Coordinates below q: those of two lists one behind the other, those of a part of a list, and one that is set anew.
use Prim.Native.Nat.{ℕ, zero, suc, ◌≤◌, ◌<◌}
use mathlib.Core.List.{List, [], ◌∷◌, ◌++◌}
use native.Mathlib.Omega.{arith}
use lib.ListN.{take, drop, set}
use Rattle.algebra.specs.Points.{Below}

pub below-append : (q : ℕ) (xs ys : List ℕ) → Below q xs → Below q ys → Below q (xs ++ ys)
below-append q [] ys below below' = below'
below-append q (x ∷ xs) ys below below' = (below.0, below-append q xs ys below.1 below')

pub below-take : (q n : ℕ) (point : List ℕ) → Below q point → Below q (take n point)
below-take q zero point below = tt
below-take q (suc n) [] below = tt
below-take q (suc n) (x ∷ point) below = (below.0, below-take q n point below.1)

pub below-drop : (q n : ℕ) (point : List ℕ) → Below q point → Below q (drop n point)
below-drop q zero point below = below
below-drop q (suc n) [] below = tt
below-drop q (suc n) (x ∷ point) below = below-drop q n point below.1

pub below_set : (q : ℕ) (point : List ℕ) (i c : ℕ) → Below q point → c < q → Below q (set point i c)
below_set q [] i c below inside = tt
below_set q (x ∷ point) zero c below inside = (inside, below.1)
below_set q (x ∷ point) (suc i) c below inside = (below.0, below_set q point i c below.1 inside)

pub below_more : (q r : ℕ) (point : List ℕ) → q ≤ r → Below q point → Below r point
below_more q r [] more below = tt
below_more q r (x ∷ point) more below = (omega (arith, below.0), below_more q r point more below.1)
