-- The places that the weights over so many bits of a limb take in the limb's block.
use Prim.Native.Nat.{ℕ, ◌+◌, ◌^◌, ◌≤◌, ◌<◌}
use native.Mathlib.Omega.{arith}
use lib.Pow.{pow_mono}

pub place_inside : (r b : ℕ) → r ≤ 5 → b < 2 ^ r → 2 ^ r + b < 64
place_inside r b l m = omega (arith, pow_mono {i = r} {j = 5} l)
