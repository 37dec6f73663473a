-- The field of p elements (01, 'The field'): the numbers 0 to p - 1, each operation taken modulo p.
use Rattle.std.specs.Prelude.{ℕ, ◌+◌, ◌-◌, ◌*◌, ◌%◌}
use Rattle.algebra.specs.Arithmetic.{Arithmetic}

-- 2^31 - 1
abbrev pub p : ℕ
p = 2147483647

-- Each operation takes any whole numbers and answers a remainder modulo p. Whole numbers do not go below 0, so a difference
-- adds p less the second number's remainder.
abbrev pub fp : Arithmetic
fp = record {
  Carrier = ℕ;
  nought = 0;
  unit = 1;
  add = λ a b. (a + b) % p;
  sub = λ a b. (a + (p - b % p)) % p;
  mul = λ a b. (a * b) % p;
}
