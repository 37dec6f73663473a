-- The laws of a commutative ring and of a finite field, over an arithmetic.
use Rattle.std.specs.Prelude.{ℕ, ◌<◌, ◌≡◌}
use Rattle.algebra.specs.Arithmetic.{Arithmetic}

-- A commutative ring. A carrier may hold values that stand for no element of the ring: its elements are the valid ones.
-- Every operation answers an element, whatever it is given.
pub record Ring (𝓐 : Arithmetic) : Type 1 where
  pub Valid : 𝓐.Carrier → Type 0
  pub valid_nought : Valid 𝓐.nought
  pub valid_unit : Valid 𝓐.unit
  pub valid_add : (a b : 𝓐.Carrier) → Valid (𝓐.add a b)
  pub valid_sub : (a b : 𝓐.Carrier) → Valid (𝓐.sub a b)
  pub valid_mul : (a b : 𝓐.Carrier) → Valid (𝓐.mul a b)
  pub add_comm : (a b : 𝓐.Carrier) → 𝓐.add a b ≡ 𝓐.add b a
  pub add_assoc : (a b c : 𝓐.Carrier) → 𝓐.add (𝓐.add a b) c ≡ 𝓐.add a (𝓐.add b c)
  pub add-nought : (a : 𝓐.Carrier) → Valid a → 𝓐.add a 𝓐.nought ≡ a
  pub sub-add : (a b : 𝓐.Carrier) → Valid a → Valid b → 𝓐.add (𝓐.sub a b) b ≡ a
  pub mul_comm : (a b : 𝓐.Carrier) → 𝓐.mul a b ≡ 𝓐.mul b a
  pub mul_assoc : (a b c : 𝓐.Carrier) → 𝓐.mul (𝓐.mul a b) c ≡ 𝓐.mul a (𝓐.mul b c)
  pub mul-unit : (a : 𝓐.Carrier) → Valid a → 𝓐.mul a 𝓐.unit ≡ a
  pub mul-add : (a b c : 𝓐.Carrier) → 𝓐.mul a (𝓐.add b c) ≡ 𝓐.add (𝓐.mul a b) (𝓐.mul a c)

-- A field of finitely many elements: every element but nought has an inverse, and the elements are numbered from 0,
-- each once and all of them.
pub record FiniteField (𝓐 : Arithmetic) : Type 1 where
  pub ring : Ring 𝓐
  pub unit_not_nought : 𝓐.unit ≡ 𝓐.nought → ⊥
  pub inverse : (a : 𝓐.Carrier) → ring.Valid a → (a ≡ 𝓐.nought → ⊥) →
      (b : 𝓐.Carrier) × ring.Valid b × (𝓐.mul a b ≡ 𝓐.unit)
  pub size : ℕ
  pub element : ℕ → 𝓐.Carrier
  pub element_valid : (i : ℕ) → i < size → ring.Valid (element i)
  pub element_distinct : (i j : ℕ) → i < size → j < size → element i ≡ element j → i ≡ j
  pub element_all : (a : 𝓐.Carrier) → ring.Valid a → (i : ℕ) × (i < size) × (element i ≡ a)
