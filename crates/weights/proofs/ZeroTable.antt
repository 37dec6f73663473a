-- A table of one value all over is ready to be filled.
use Prim.Native.Nat.{ℕ, ◌≤◌, ◌<◌}
use native.Mathlib.Omega.{arith}
use lib.ListN.{replicate, length-replicate}
use Rattle.weights.specs.Side.{Ready}

pub zeros-ready : {E : Type 0} (x : E) (n : ℕ) → 64 ≤ n → (64 < n → 448 ≤ n) → Ready (replicate n x)
zeros-ready {E} x n room long =
    let same = length-replicate {A = E} n x in
    record { room = omega (arith, same); long = λ l. omega (arith, same, long (omega (arith, same))) }
