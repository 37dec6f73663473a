-- Counting points. A point is a list of coordinates, each below q, and each list counts once.
use Rattle.std.specs.Prelude.{ℕ, zero, suc, ◌<◌, Bool, cond, List, [], ◌∷◌}
use Rattle.algebra.specs.Arithmetic.{sum_below, whole}

-- how many of the lists of m coordinates below q pass the test
unfoldable pub count_points : ℕ → ℕ → (List ℕ → Bool) → ℕ
count_points q zero test = cond (test []) 1 0
count_points q (suc m) test = sum_below whole q (λ x. count_points q m (λ xs. test (x ∷ xs)))

-- each of the coordinates is below q
abbrev pub Below : ℕ → List ℕ → Type 0
Below q [] = Unit {0}
Below q (x ∷ xs) = (x < q) × Below q xs
