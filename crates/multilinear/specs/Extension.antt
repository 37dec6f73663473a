-- A matrix evaluated at a point (01, 'Dense form and evaluation'; 004, 1.1.2).
use Rattle.std.specs.Prelude.{ℕ, ◌^◌, List, length}
use Rattle.algebra.specs.Arithmetic.{Arithmetic, sum_below}
use Rattle.multilinear.specs.Matrix.{Matrix}
use Rattle.multilinear.specs.Weight.{weight}

-- the sum over the rows x below N and the columns y below N' of m(x, y)·w(x)·w'(y)
unfoldable pub weighted : (𝓐 : Arithmetic) → Matrix 𝓐 → ℕ → ℕ → (ℕ → 𝓐.Carrier) → (ℕ → 𝓐.Carrier) → 𝓐.Carrier
weighted 𝓐 m N N' w w' = sum_below 𝓐 N (λ x. sum_below 𝓐 N' (λ y. 𝓐.mul (𝓐.mul (m x y) (w x)) (w' y)))

-- the multilinear extension: row x of 2^(number of row coordinates) weighs eq([x]; rows), column y likewise eq([y]; columns)
abbrev pub extension : (𝓐 : Arithmetic) → Matrix 𝓐 → List 𝓐.Carrier → List 𝓐.Carrier → 𝓐.Carrier
extension 𝓐 m rows columns =
    weighted 𝓐 m (2 ^ length rows) (2 ^ length columns) (λ x. weight 𝓐 x rows) (λ y. weight 𝓐 y columns)
