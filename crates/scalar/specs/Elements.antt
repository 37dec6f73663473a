-- How the values of a type of the code are the elements of a field in which keys are evaluated. What is said of tables and sums is said
-- over this, whatever the type. The contracts of inner functions cite it, and those of `evaluate::over` and `compare::over`, which are over
-- any field; no promise of a call over the field of p, or over that of p², rests on it.
use Rattle.std.specs.Prelude.{ℕ, ◌/◌, ◌<◌, List, ◌≡◌, length}
use Rattle.std.proofs.Common.{arith}
use Rattle.field.specs.Fp.{p}
use Rattle.field.specs.Scalars.{Scalars, Lawful, prime}
use Rattle.field.specs.declared.fp.Fp.{Fp}
use Rattle.quadratic.specs.Parts.{parts}
use Rattle.quadratic.specs.Quadratic.{quadratic}
use Rattle.quadratic.specs.declared.Fp2.{Fp2}

pub record Elements (E : Type 0) : Type 1 where
  pub scalars : Scalars
  -- the element that a value is
  pub element : E → scalars.arithmetic.Carrier
  -- the value that is read behind the end of a list
  pub none : E

-- what such values obey
pub record LawfulElements (E : Type 0) (𝓔 : Elements E) : Type 1 where
  pub lawful : Lawful 𝓔.scalars
  -- an element has at least one number
  pub some : 0 < 𝓔.scalars.width
  -- each value is an element of the field
  pub valid : (x : E) → lawful.field.ring.Valid (𝓔.element x)
  -- numbers make as many elements as they fill: those that are left over make none
  pub counted : (numbers : List ℕ) → length (𝓔.scalars.elements numbers) ≡ length numbers / 𝓔.scalars.width

pub zero-below : 0 < p
zero-below = omega arith

-- elements of the field of p
abbrev pub singles : Elements Fp
singles = record { scalars = prime; element = λ x. x.number; none = record { number = 0; below = zero-below } }

-- elements of the field of p²
abbrev pub doubles : Elements Fp2
doubles = record { scalars = quadratic; element = parts; none = record { u = singles.none; v = singles.none } }
