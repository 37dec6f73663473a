-- eq as 004, 1.1.2 prints it, over any arithmetic; and the product of one factor for each bit of a number.
use Rattle.std.specs.Prelude.{ℕ, zero, suc, ◌/◌, ◌%◌, List, [], ◌∷◌}
use Rattle.algebra.specs.Arithmetic.{Arithmetic}

-- x·y + (1 - x)·(1 - y)
abbrev pub eq_factor : (𝓐 : Arithmetic) → 𝓐.Carrier → 𝓐.Carrier → 𝓐.Carrier
eq_factor 𝓐 x y = 𝓐.add (𝓐.mul x y) (𝓐.mul (𝓐.sub 𝓐.unit x) (𝓐.sub 𝓐.unit y))

-- eq(x; y), of two lists of one length: the product of x_i·y_i + (1 - x_i)·(1 - y_i), for i from 0 up
unfoldable pub eq : (𝓐 : Arithmetic) → List 𝓐.Carrier → List 𝓐.Carrier → 𝓐.Carrier
eq 𝓐 [] ys = 𝓐.unit
eq 𝓐 (x ∷ xs) [] = 𝓐.unit
eq 𝓐 (x ∷ xs) (y ∷ ys) = 𝓐.mul (eq_factor 𝓐 x y) (eq 𝓐 xs ys)

-- the product over the k lowest bits of a number, where bit i takes the factor numbered `from` + i
unfoldable pub bitwise : (𝓐 : Arithmetic) → (ℕ → ℕ → 𝓐.Carrier) → ℕ → ℕ → ℕ → 𝓐.Carrier
bitwise 𝓐 factor zero from a = 𝓐.unit
bitwise 𝓐 factor (suc k) from a = 𝓐.mul (factor from (a % 2)) (bitwise 𝓐 factor k (suc from) (a / 2))
