-- How large the parts of a sum are, by their index.
use Prim.Native.Nat.{ℕ, zero, suc, ◌+◌, ◌<◌}
use mathlib.Core.Path.{◌≡◌}
use native.Mathlib.Omega.{arith}
use Rattle.quadratic.specs.Unreduced.{Under, size_of_part}
use Rattle.quadratic.specs.declared.unreduced.Wide.{Wide}

pub none : (x : Wide) → x.u ≡ 0 → x.v ≡ 0 → (i : ℕ) → size_of_part x i ≡ 0
unfolding size_of_part
none x e e' zero = e
none x e e' (suc i) = e'

pub both-under : (n : ℕ) (x : Wide) → ((i : ℕ) → i < 2 → size_of_part x i < n) → Under n x
unfolding size_of_part
both-under n x l = (l 0 (omega arith), l 1 (omega arith))

pub little-more : (n : ℕ) (x y : Wide) → (y.u < x.u + n) × (y.v < x.v + n) → (i : ℕ) → size_of_part y i < size_of_part x i + n
unfolding size_of_part
little-more n x y l zero = l.0
little-more n x y l (suc i) = l.1
