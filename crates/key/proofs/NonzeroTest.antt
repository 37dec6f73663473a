-- A number above 0 is not found equal to 0.
use Prim.Native.Nat.{ℕ, ◌<◌}
use mathlib.Core.Bool.{false}
use mathlib.Core.Path.{◌≡◌}
use native.Mathlib.Omega.{arith}
use borrow.Author.Tests.{ne_eqb}
use lib.Dec.{eqb}

pub not-nought : (m : ℕ) → 0 < m → eqb m 0 ≡ false
not-nought m some = ne_eqb m 0 (λ e. omega arith)
