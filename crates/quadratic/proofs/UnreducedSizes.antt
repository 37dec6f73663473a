-- How large sums of two products are.
use Prim.Native.Nat.{ℕ, ◌+◌, ◌*◌, ◌≤◌, ◌<◌}
use native.Mathlib.Nat.{mul-le-mul}
use native.Mathlib.Omega.{arith}

-- (2^31 + 4)² + (2^31 + 4)·2·p is below 3·2^62 + 2^35
pub sum_fits : {a b c d : ℕ} → a ≤ 2147483652 → b ≤ 2147483652 → c ≤ 2147483652 → d ≤ 4294967294 →
    a * b + c * d < 13835058089641902080
sum_fits la lb lc ld = omega (arith, mul-le-mul la lb, mul-le-mul lc ld)
