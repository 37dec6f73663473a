-- Matrices, and a matrix scaled and moved to another place (01, 'Dense form and evaluation'; 02, E9).
use Rattle.std.specs.Prelude.{ℕ, ◌+◌, ◌-◌, Bool, cond, ◌&&◌, leb, ltb}
use Rattle.algebra.specs.Arithmetic.{Arithmetic}

-- a value at each row and column; how many rows and columns count is said where a matrix is used
abbrev pub Matrix : Arithmetic → Type 0
Matrix 𝓐 = ℕ → ℕ → 𝓐.Carrier

-- zero everywhere
abbrev pub noughts : (𝓐 : Arithmetic) → Matrix 𝓐
noughts 𝓐 x y = 𝓐.nought

-- a matrix times an element, place by place
abbrev pub scaled : (𝓐 : Arithmetic) → 𝓐.Carrier → Matrix 𝓐 → Matrix 𝓐
scaled 𝓐 a m x y = 𝓐.mul a (m x y)

-- is x one of the n numbers from s on?
abbrev pub within : ℕ → ℕ → ℕ → Bool
within s n x = leb s x && ltb x (s + n)

-- the first n rows and n' columns of a matrix, moved down by s rows and right by s' columns, zero elsewhere
unfoldable pub moved : (𝓐 : Arithmetic) → Matrix 𝓐 → ℕ → ℕ → ℕ → ℕ → Matrix 𝓐
moved 𝓐 m n n' s s' x y = cond (within s n x && within s' n' y) (m (x - s) (y - s')) 𝓐.nought
