-- Arithmetic on a carrier: the operations that weights, sums and dense forms are written in.
use Rattle.std.specs.Prelude.{ℕ, zero, suc, ◌+◌, ◌-◌, ◌*◌}

-- The operations alone. What they obey is said beside them (Field.antt), so that a second field is a second use of every
-- definition over an arithmetic.
pub record Arithmetic : Type 1 where
  pub Carrier : Type 0
  pub nought : Carrier
  pub unit : Carrier
  pub add : Carrier → Carrier → Carrier
  pub sub : Carrier → Carrier → Carrier
  pub mul : Carrier → Carrier → Carrier

-- the sum of f at each number below n
unfoldable pub sum_below : (𝓐 : Arithmetic) → ℕ → (ℕ → 𝓐.Carrier) → 𝓐.Carrier
sum_below 𝓐 zero f = 𝓐.nought
sum_below 𝓐 (suc n) f = 𝓐.add (sum_below 𝓐 n f) (f n)

-- the whole numbers, in which points are counted; a difference below 0 is 0
abbrev pub whole : Arithmetic
whole = record {
  Carrier = ℕ;
  nought = 0;
  unit = 1;
  add = λ a b. a + b;
  sub = λ a b. a - b;
  mul = λ a b. a * b;
}
