-- A side of a point, prepared for many weights (004, 1.2: the third way): a table of factors and of weights of limbs, in any field.
-- The contracts of inner functions cite it; no public promise rests on it.
use Rattle.std.specs.Prelude.{ℕ, ◌+◌, ◌-◌, ◌*◌, ◌/◌, ◌^◌, ◌≤◌, ◌<◌, cond, List, ◌≡◌, eqb, length, get_or}
use Rattle.algebra.specs.Arithmetic.{Arithmetic}
use Rattle.multilinear.specs.Eq.{eq_factor, bitwise}
use Rattle.arrays.specs.Side.{Side, factors}
use Rattle.scalar.specs.Elements.{Elements}

-- the element at a place of a table
abbrev pub element_in : {E : Type 0} (𝓔 : Elements E) → List E → ℕ → 𝓔.scalars.arithmetic.Carrier
element_in 𝓔 table k = 𝓔.element (get_or table k 𝓔.none)

-- The first 64 places of a table hold the factors of single bits: this is that of bit i, where it is `bit`.
abbrev pub pairs : {E : Type 0} (𝓔 : Elements E) → List E → ℕ → ℕ → 𝓔.scalars.arithmetic.Carrier
pairs 𝓔 table i bit = element_in 𝓔 table (2 * i + bit)

-- the side that a table prepares
abbrev pub prepared : {E : Type 0} (𝓔 : Elements E) → List E → Side 𝓔.scalars.arithmetic
prepared 𝓔 table = factors 𝓔.scalars.arithmetic (pairs 𝓔 table)

-- Behind them stand blocks of 64 places, one for each limb: the bits 5q, .., 5q + 4. In block q this is the place of the weight of b, a
-- number of r bits, over the last r bits of the limb.
abbrev pub limb_place : ℕ → ℕ → ℕ → ℕ
limb_place q r b = 64 * q + 64 + (2 ^ r + b)

-- the first blocks of a table, so many: each weight is the product of its factors
pub record Limbs {E : Type 0} (𝓔 : Elements E) (blocks : ℕ) (table : List E) : Type 0 where
  pub room : 64 * blocks + 64 ≤ length table
  pub holds : (q r b : ℕ) → q < blocks → r ≤ 5 → b < 2 ^ r →
      element_in 𝓔 table (limb_place q r b) ≡ bitwise 𝓔.scalars.arithmetic (pairs 𝓔 table) r (5 * q + (5 - r)) b

-- a table for weights over the first n bits, at most 30: one of more than 64 places has the blocks of all limbs that they fill
pub record Prepared {E : Type 0} (𝓔 : Elements E) (n : ℕ) (table : List E) : Type 0 where
  pub few : n ≤ 30
  pub room : 64 ≤ length table
  pub limbs : 64 < length table → Limbs 𝓔 (n / 5) table

-- A number's weight over the bits from one up to another by a table.
abbrev pub Weighs : {E : Type 0} (𝓔 : Elements E) → List E → ℕ → ℕ → ℕ → 𝓔.scalars.arithmetic.Carrier → Type 0
Weighs 𝓔 table a from to weight = weight ≡ bitwise 𝓔.scalars.arithmetic (pairs 𝓔 table) (to - from) from a

-- the same with its count of factors (02, E4): one for each coordinate
pub record Weighed {E : Type 0} (𝓔 : Elements E) (table : List E) (a from to : ℕ) (weight : 𝓔.scalars.arithmetic.Carrier) (factors : ℕ) : Type 0 where
  pub weighs : Weighs 𝓔 table a from to weight
  pub counted : factors ≡ to - from

-- the bits of the limbs that have one of n bits
abbrev pub filled : ℕ → ℕ
filled n = 5 * ((n + 4) / 5)

-- a table for n coordinates: where it has blocks, the last limb is filled up with bits whose 0 has the factor 1
pub record ForSide {E : Type 0} (𝓔 : Elements E) (n : ℕ) (table : List E) : Type 0 where
  pub short : Prepared 𝓔 n table
  pub long : 64 < length table → Prepared 𝓔 (filled n) table
  pub beyond : 64 < length table → (i : ℕ) → n ≤ i → i < filled n → pairs 𝓔 table i 0 ≡ 𝓔.scalars.arithmetic.unit

-- Weights over the first `bits` bits may as well be taken over the first `to`.
pub record Reaches {E : Type 0} (𝓔 : Elements E) (table : List E) (bits to : ℕ) : Type 0 where
  pub further : bits ≤ to
  pub side : Prepared 𝓔 to table
  pub same : (from a : ℕ) → from ≤ bits → a < 2 ^ (bits - from) →
      bitwise 𝓔.scalars.arithmetic (pairs 𝓔 table) (to - from) from a ≡ bitwise 𝓔.scalars.arithmetic (pairs 𝓔 table) (bits - from) from a

-- the element that a bit is
abbrev pub bit_element : (𝓐 : Arithmetic) → ℕ → 𝓐.Carrier
bit_element 𝓐 bit = cond (eqb bit 1) 𝓐.unit 𝓐.nought

-- the factor of eq for a bit and the coordinate numbered i
abbrev pub factor_of : (𝓐 : Arithmetic) → List 𝓐.Carrier → ℕ → ℕ → 𝓐.Carrier
factor_of 𝓐 coordinates i bit = eq_factor 𝓐 (bit_element 𝓐 bit) (get_or coordinates i 𝓐.nought)

-- the table of a list of coordinates: the factors of each are those of eq for the bits 0 and 1
pub record Tabled {E : Type 0} (𝓔 : Elements E) (coordinates : List 𝓔.scalars.arithmetic.Carrier) (table : List E) : Type 0 where
  pub side : ForSide 𝓔 (length coordinates) table
  pub factors_of : (i bit : ℕ) → i < length coordinates → bit < 2 → pairs 𝓔 table i bit ≡ factor_of 𝓔.scalars.arithmetic coordinates i bit

-- a table to be filled, with places for 30 coordinates, and for their limbs where it has more than 64
pub record Ready {E : Type 0} (table : List E) : Type 0 where
  pub room : 64 ≤ length table
  pub long : 64 < length table → 448 ≤ length table

-- a table in which the factors of the first `done` coordinates are written
pub record Paired {E : Type 0} (𝓔 : Elements E) (coordinates : List 𝓔.scalars.arithmetic.Carrier) (before : List E) (done : ℕ) (table : List E) : Type 0 where
  pub same_length : length table ≡ length before
  pub factors_of : (i bit : ℕ) → i < done → bit < 2 → pairs 𝓔 table i bit ≡ factor_of 𝓔.scalars.arithmetic coordinates i bit

-- a table in which the factors of the bits from `from` up to `done` are 1 for the bit 0, and 0 for the bit 1; those of the bits before
-- are as they were
pub record FilledUp {E : Type 0} (𝓔 : Elements E) (before : List E) (from done : ℕ) (table : List E) : Type 0 where
  pub same_length : length table ≡ length before
  pub ones : (i : ℕ) → from ≤ i → i < done →
      (pairs 𝓔 table i 0 ≡ 𝓔.scalars.arithmetic.unit) × (pairs 𝓔 table i 1 ≡ 𝓔.scalars.arithmetic.nought)
  pub first : (k : ℕ) → k < 2 * from → get_or table k 𝓔.none ≡ get_or before k 𝓔.none

-- the factors of so many bits are those of a coordinate: that of 0 is 1 less that of 1
abbrev pub Complements : {E : Type 0} → Elements E → ℕ → List E → Type 0
Complements 𝓔 n table = (i : ℕ) → i < n → pairs 𝓔 table i 0 ≡ 𝓔.scalars.arithmetic.sub 𝓔.scalars.arithmetic.unit (pairs 𝓔 table i 1)

-- a table whose first blocks, so many, are made by the factors that stand in it before; the places before them are as they were
pub record BlocksMade {E : Type 0} (𝓔 : Elements E) (before : List E) (blocks : ℕ) (table : List E) : Type 0 where
  pub same_length : length table ≡ length before
  pub holds : (q r b : ℕ) → q < blocks → r ≤ 5 → b < 2 ^ r →
      element_in 𝓔 table (limb_place q r b) ≡ bitwise 𝓔.scalars.arithmetic (pairs 𝓔 before) r (5 * q + (5 - r)) b
  pub first : (k : ℕ) → k < 64 → get_or table k 𝓔.none ≡ get_or before k 𝓔.none

-- a table in which the weights over the last r bits of limb q are made, for r up to `levels`; the places before the block are as they were
pub record BlockGrown {E : Type 0} (𝓔 : Elements E) (before : List E) (q levels : ℕ) (table : List E) : Type 0 where
  pub same_length : length table ≡ length before
  pub holds : (r b : ℕ) → r ≤ levels → b < 2 ^ r →
      element_in 𝓔 table (limb_place q r b) ≡ bitwise 𝓔.scalars.arithmetic (pairs 𝓔 before) r (5 * q + (5 - r)) b
  pub first : (k : ℕ) → k < 64 * q + 64 → get_or table k 𝓔.none ≡ get_or before k 𝓔.none

-- A table in which the places of the block at `base` from 2·half up to 2·done are made from those from half up to done: each weight there
-- times the factors of one bit more. The places before them are as they were.
pub record Widened {E : Type 0} (𝓔 : Elements E) (before : List E) (base half : ℕ) (odd : 𝓔.scalars.arithmetic.Carrier) (done : ℕ) (table : List E) : Type 0 where
  pub same_length : length table ≡ length before
  pub evens : (j : ℕ) → half ≤ j → j < done →
      element_in 𝓔 table (base + 2 * j)
      ≡ 𝓔.scalars.arithmetic.mul (𝓔.scalars.arithmetic.sub 𝓔.scalars.arithmetic.unit odd) (element_in 𝓔 before (base + j))
  pub odds : (j : ℕ) → half ≤ j → j < done →
      element_in 𝓔 table (base + 2 * j + 1) ≡ 𝓔.scalars.arithmetic.mul odd (element_in 𝓔 before (base + j))
  pub first : (k : ℕ) → k < base + 2 * half → get_or table k 𝓔.none ≡ get_or before k 𝓔.none
