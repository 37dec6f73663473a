-- A list that is filled with numbers below p from its first place on.
use Prim.Native.Nat.{ℕ, suc, ◌≤◌, ◌<◌}
use mathlib.Core.List.{List, [], ◌∷◌}
use mathlib.Core.Path.{◌≡◌}
use native.Mathlib.Omega.{arith}
use lib.ListN.{length, get_or}
use Rattle.algebra.specs.Points.{Below}
use Rattle.field.specs.Fp.{p}

-- the first i numbers are below p
pub record Filling (before numbers : List ℕ) (i : ℕ) : Type 0 where
  pub same_length : length numbers ≡ length before
  pub below : (k : ℕ) → k < i → get_or numbers k 0 < p

all-below : (numbers : List ℕ) → ((k : ℕ) → k < length numbers → get_or numbers k 0 < p) → Below p numbers
all-below [] below = tt
all-below (x ∷ numbers) below = (below 0 (omega arith), all-below numbers (λ k l. below (suc k) (omega arith)))

pub filling-done : (before numbers : List ℕ) (i : ℕ) → length before ≤ i → Filling before numbers i → Below p numbers
filling-done before numbers i l f = all-below numbers (λ k m. f.below k (omega (arith, f.same_length)))
