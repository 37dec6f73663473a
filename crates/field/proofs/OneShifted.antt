-- 1 shifted to the left in a number of so many bits is a power of two.
use Prim.Native.Nat.{ℕ, ◌*◌, ◌%◌, ◌^◌, ◌<◌}
use mathlib.Core.Path.{◌≡◌, ◌∙◌}
use native.Mathlib.Nat.{one-mul}
use native.Mathlib.Omega.{arith}
use lib.Dec.{lit<}
use lib.Pow.{shl_exact}

-- `1 << bits` in a number of `width` bits
pub one_shifted : (width bits : ℕ) → bits < width → (1 * 2 ^ bits) % 2 ^ width ≡ 2 ^ bits
one_shifted width bits l = shl_exact {a = 1} 1 bits width (lit< tt) (omega arith) ∙ one-mul (2 ^ bits)
