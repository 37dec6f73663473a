-- Worked examples over the field of p²: the factors in a table, a weight, and eq.
use Prim.Native.Nat.{ℕ, ◌<◌}
use mathlib.Core.List.{List, [], ◌∷◌}
use mathlib.Core.Path.{◌≡◌, refl}
use native.Mathlib.Omega.{arith}
use Rattle.field.specs.Fp.{p}
use Rattle.quadratic.specs.Fp2.{TwoParts, fp2}
use Rattle.quadratic.specs.Quadratic.{two_by_two, quadratic}
use Rattle.quadratic.specs.declared.Fp2.{Fp2}
use Rattle.scalar.specs.Elements.{doubles}
use Rattle.multilinear.specs.Eq.{eq, bitwise}
use Rattle.weights.specs.Side.{pairs, Tabled}

-- u + v·i, as an element and as a value of the code's type
abbrev element : ℕ → ℕ → TwoParts
element u v = record { u = u; v = v }

abbrev value : (u v : ℕ) → u < p → v < p → Fp2
value u v l m = record { u = record { number = u; below = l }; v = record { number = v; below = m } }

-- a table for the coordinate 3 + 2i has the factors 1 - (3 + 2i) = -2 - 2i and 3 + 2i
pub two-factors : (table : List Fp2) → Tabled doubles (quadratic.elements (3 ∷ 2 ∷ [])) table →
    (pairs doubles table 0 0 ≡ element 2147483645 2147483645) × (pairs doubles table 0 1 ≡ element 3 2)
unfolding two_by_two
two-factors table tabled = (tabled.factors_of 0 0 (omega arith) (omega arith), tabled.factors_of 0 1 (omega arith) (omega arith))

-- 2 has the bits 0 and 1: at 3 + 2i and 4 + 5i it weighs (-2 - 2i)(4 + 5i) = 2 - 18i
abbrev factors : List Fp2
factors =
    value 2147483645 2147483645 (omega arith) (omega arith)
    ∷ value 3 2 (omega arith) (omega arith)
    ∷ value 2147483644 2147483642 (omega arith) (omega arith)
    ∷ value 4 5 (omega arith) (omega arith)
    ∷ []

pub weight-of-two : bitwise fp2 (pairs doubles factors) 2 0 2 ≡ element 2 2147483629
unfolding bitwise
weight-of-two = refl

-- (3 + 2i)(4 + 5i) + (-2 - 2i)(-3 - 5i) = -2 + 39i; a number that is left over changes nothing
pub eq-of-one : eq fp2 (quadratic.elements (3 ∷ 2 ∷ [])) (quadratic.elements (4 ∷ 5 ∷ [])) ≡ element 2147483645 39
unfolding eq two_by_two
eq-of-one = refl

pub eq-with-one-over : eq fp2 (quadratic.elements (3 ∷ 2 ∷ 7 ∷ [])) (quadratic.elements (4 ∷ 5 ∷ 8 ∷ [])) ≡ element 2147483645 39
unfolding eq two_by_two
eq-with-one-over = refl
