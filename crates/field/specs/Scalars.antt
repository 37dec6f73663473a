-- A field in which keys are evaluated. Its elements are the coordinates of points and the answers; callers give and get them as
-- numbers below p. The field of p elements is one (`prime`), that of p² the other (crates/quadratic).
use Rattle.std.specs.Prelude.{ℕ, ◌^◌, ◌<◌, List, [], ◌∷◌, ◌++◌, ◌≡◌, length, get_or}
use Rattle.algebra.specs.Arithmetic.{Arithmetic}
use Rattle.algebra.specs.Digits.{digits}
use Rattle.algebra.specs.Field.{FiniteField}
use Rattle.algebra.specs.Points.{Below}
use Rattle.algebra.specs.Respects.{Respects}
use Rattle.field.specs.Fp.{p, fp}

pub record Scalars : Type 1 where
  pub arithmetic : Arithmetic
  -- how many numbers make an element
  pub width : ℕ
  -- the elements that numbers make, one behind the other
  pub elements : List ℕ → List arithmetic.Carrier
  -- the numbers that an element is laid out as
  pub numbers : arithmetic.Carrier → List ℕ
  -- the element that a number of the field of p is: a value of a key or of a dense matrix
  pub embed : ℕ → arithmetic.Carrier

-- how many elements there are, q: as many as lists of so many numbers below p
abbrev pub size_of : Scalars → ℕ
size_of 𝓢 = p ^ 𝓢.width

-- the element numbered i among those that numbers make, from 0 on
abbrev pub element_at : (𝓢 : Scalars) → List ℕ → ℕ → 𝓢.arithmetic.Carrier
element_at 𝓢 numbers i = get_or (𝓢.elements numbers) i 𝓢.arithmetic.nought

-- the field of p elements: one number each
abbrev pub prime : Scalars
prime = record { arithmetic = fp; width = 1; elements = λ numbers. numbers; numbers = λ x. x ∷ []; embed = λ x. x }

-- what such a field obeys
pub record Lawful (𝓢 : Scalars) : Type 1 where
  pub field : FiniteField 𝓢.arithmetic
  pub size_is : field.size ≡ size_of 𝓢
  -- the field of p lies in it
  pub respects : Respects fp 𝓢.arithmetic 𝓢.embed
  pub embed_valid : (x : ℕ) → x < p → field.ring.Valid (𝓢.embed x)
  pub embed_once : (x y : ℕ) → x < p → y < p → 𝓢.embed x ≡ 𝓢.embed y → x ≡ y
  -- what is laid out has so many numbers, and all lists of so many numbers are laid out so; it is an element of the field exactly
  -- where they are below p
  pub numbers_width : (x : 𝓢.arithmetic.Carrier) → length (𝓢.numbers x) ≡ 𝓢.width
  pub numbers_all : (list : List ℕ) → length list ≡ 𝓢.width → (x : 𝓢.arithmetic.Carrier) × (𝓢.numbers x ≡ list)
  pub numbers_below : (x : 𝓢.arithmetic.Carrier) → field.ring.Valid x → Below p (𝓢.numbers x)
  pub below_valid : (x : 𝓢.arithmetic.Carrier) → Below p (𝓢.numbers x) → field.ring.Valid x
  -- numbers make again what was laid out as them
  pub none_made : 𝓢.elements [] ≡ []
  pub made_again : (x : 𝓢.arithmetic.Carrier) (rest : List ℕ) → 𝓢.elements (𝓢.numbers x ++ rest) ≡ x ∷ 𝓢.elements rest
  -- the elements are numbered as their numbers are, to the base p
  pub numbered : (i : ℕ) → i < field.size → 𝓢.numbers (field.element i) ≡ digits p 𝓢.width i
