-- Weights (01, 'Weights'; 004, 1.1.2), over any arithmetic.
use Rattle.std.specs.Prelude.{ℕ, zero, suc, ◌/◌, ◌%◌, cond, List, [], ◌∷◌, eqb}
use Rattle.algebra.specs.Arithmetic.{Arithmetic}

-- eq([a]; r): bit i of a, lowest first, is paired with coordinate i. The factor is r_i where the bit is 1 and 1 - r_i where
-- it is 0; with no coordinates the weight is 1.
unfoldable pub weight : (𝓐 : Arithmetic) → ℕ → List 𝓐.Carrier → 𝓐.Carrier
weight 𝓐 a [] = 𝓐.unit
weight 𝓐 a (r ∷ coordinates) =
    𝓐.mul (cond (eqb (a % 2) 1) r (𝓐.sub 𝓐.unit r)) (weight 𝓐 (a / 2) coordinates)

-- the k lowest bits of a number as coordinates, lowest first
unfoldable pub bits : (𝓐 : Arithmetic) → ℕ → ℕ → List 𝓐.Carrier
bits 𝓐 zero a = []
bits 𝓐 (suc k) a = cond (eqb (a % 2) 1) 𝓐.unit 𝓐.nought ∷ bits 𝓐 k (a / 2)
