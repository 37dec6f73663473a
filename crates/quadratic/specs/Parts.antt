-- The element of the field of p² that a value of the code's type is.
use Rattle.quadratic.specs.Fp2.{TwoParts, Reduced}
use Rattle.quadratic.specs.declared.Fp2.{Fp2}

abbrev pub parts : Fp2 → TwoParts
parts x = record { u = x.u.number; v = x.v.number }

-- both parts are below p
abbrev pub PartsBelow : Fp2 → Type 0
PartsBelow x = Reduced (parts x)
