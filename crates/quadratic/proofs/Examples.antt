-- Worked examples: products, the sizes of the two fields, and numbers two by two.
use Prim.Native.Nat.{ℕ, ◌*◌}
use mathlib.Core.List.{[], ◌∷◌}
use mathlib.Core.Path.{◌≡◌, refl}
use Rattle.field.specs.Fp.{p}
use Rattle.field.specs.Scalars.{prime, size_of}
use Rattle.quadratic.specs.Fp2.{TwoParts, fp2}
use Rattle.quadratic.specs.Quadratic.{two_by_two, quadratic}

-- u + v·i
abbrev element : ℕ → ℕ → TwoParts
element u v = record { u = u; v = v }

-- i·i = -1
pub i-squared : fp2.mul (element 0 1) (element 0 1) ≡ fp2.sub fp2.nought fp2.unit
i-squared = refl

pub less_one : fp2.sub fp2.nought fp2.unit ≡ element 2147483646 0
less_one = refl

-- (-1 - i)(-1 - i) = 2i: all parts are p - 1
pub greatest : fp2.mul (element 2147483646 2147483646) (element 2147483646 2147483646) ≡ element 0 2
greatest = refl

-- (3 + 2i)(4 + 5i) = 2 + 23i
pub product : fp2.mul (element 3 2) (element 4 5) ≡ element 2 23
product = refl

-- (1 + i)(2^30 - 2^30·i) = 2^31 = 1
pub inverse : fp2.mul (element 1 1) (element 1073741824 1073741823) ≡ fp2.unit
inverse = refl

-- the two sizes
pub prime-size : size_of prime ≡ p
prime-size = refl

pub quadratic-size : size_of quadratic ≡ p * p
quadratic-size = refl

-- u first; a number that is left over makes no element
pub none : two_by_two [] ≡ []
unfolding two_by_two
none = refl

pub one : two_by_two (3 ∷ []) ≡ []
unfolding two_by_two
one = refl

pub two : two_by_two (3 ∷ 2 ∷ []) ≡ element 3 2 ∷ []
unfolding two_by_two
two = refl

pub three : two_by_two (3 ∷ 2 ∷ 4 ∷ []) ≡ element 3 2 ∷ []
unfolding two_by_two
three = refl

pub four : two_by_two (3 ∷ 2 ∷ 4 ∷ 5 ∷ []) ≡ element 3 2 ∷ element 4 5 ∷ []
unfolding two_by_two
four = refl
