-- Two matrices compared at the points of a finite field (01, 'Comparing two keys').
use Rattle.std.specs.Prelude.{ℕ, ◌<◌, List, map, ◌≡◌, take, drop}
use Rattle.algebra.specs.Arithmetic.{Arithmetic}
use Rattle.multilinear.specs.Extension.{extension}
use Rattle.multilinear.specs.Matrix.{Matrix}

-- two matrices differ at some row below N and column below N'
pub record Differ (𝓐 : Arithmetic) (N N' : ℕ) (first second : Matrix 𝓐) : Type 0 where
  pub row : ℕ
  pub column : ℕ
  pub row_inside : row < N
  pub column_inside : column < N'
  pub unequal : first row column ≡ second row column → ⊥

-- The extension at a point, a list of numbers each of which stands for the element that has this number: n of them are the
-- row coordinates, those behind them the column coordinates.
abbrev pub extension_at : (𝓐 : Arithmetic) → (ℕ → 𝓐.Carrier) → ℕ → Matrix 𝓐 → List ℕ → 𝓐.Carrier
extension_at 𝓐 element n m point = extension 𝓐 m (map element (take n point)) (map element (drop n point))
