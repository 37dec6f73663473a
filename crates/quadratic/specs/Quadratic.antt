-- The field of p² elements as one in which keys are evaluated: two numbers each, u first (E2).
use Rattle.std.specs.Prelude.{ℕ, List, [], ◌∷◌}
use Rattle.field.specs.Scalars.{Scalars}
use Rattle.quadratic.specs.Fp2.{TwoParts, fp2}

-- numbers two by two, u first; one that is left over makes no element
unfoldable pub two_by_two : List ℕ → List TwoParts
two_by_two [] = []
two_by_two (u ∷ []) = []
two_by_two (u ∷ v ∷ numbers) = record { u = u; v = v } ∷ two_by_two numbers

-- a number x of the field of p is x + 0·i
abbrev pub quadratic : Scalars
quadratic = record {
  arithmetic = fp2;
  width = 2;
  elements = two_by_two;
  numbers = λ x. x.u ∷ x.v ∷ [];
  embed = λ x. record { u = x; v = 0 };
}
