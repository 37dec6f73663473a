-- The numbers below 3, with the operations modulo 3, are a finite field.
use Prim.Native.Nat.{ℕ, zero, suc, ◌+◌, ◌-◌, ◌*◌, ◌%◌, ◌<◌}
use mathlib.Core.Path.{◌≡◌, refl, ap}
use native.Mathlib.Nat.{mod-lt, div-add-mod}
use native.Mathlib.Omega.{arith}
use Rattle.algebra.specs.Arithmetic.{Arithmetic}
use Rattle.algebra.specs.Field.{Ring, FiniteField}

abbrev pub three : Arithmetic
three = record {
  Carrier = ℕ;
  nought = 0;
  unit = 1;
  add = λ a b. (a + b) % 3;
  sub = λ a b. (a + (3 - b)) % 3;
  mul = λ a b. (a * b) % 3;
}

unfoldable pub three-ring : Ring three
three-ring = record {
  Valid = λ a. a < 3;
  valid_nought = omega arith;
  valid_unit = omega arith;
  valid_add = λ a b. mod-lt _ (omega arith);
  valid_sub = λ a b. mod-lt _ (omega arith);
  valid_mul = λ a b. mod-lt _ (omega arith);
  add_comm = λ a b. omega arith;
  add_assoc = λ a b c. omega arith;
  add-nought = λ a v. omega arith;
  sub-add = λ a b v w. omega arith;
  mul_comm = λ a b. omega arith;
  mul_assoc = λ a b c.
      omega (arith, ap (λ (x : ℕ). x * c) (div-add-mod (a * b) 3), ap (λ (x : ℕ). a * x) (div-add-mod (b * c) 3));
  mul-unit = λ a v. omega arith;
  mul-add = λ a b c. omega (arith, ap (λ (x : ℕ). a * x) (div-add-mod (b + c) 3));
}

-- 1·1 = 1, and 2·2 = 4 = 1
pub own-inverse : (a : ℕ) → a < 3 → (a ≡ 0 → ⊥) → (b : ℕ) × (b < 3) × ((a * b) % 3 ≡ 1)
own-inverse zero l some = absurd (some refl)
own-inverse (suc zero) l some = (1, omega arith, refl)
own-inverse (suc (suc zero)) l some = (2, omega arith, refl)
own-inverse (suc (suc (suc a))) l some = absurd (omega arith)

unfoldable pub three-field : FiniteField three
unfolding three-ring
three-field = record {
  ring = three-ring;
  unit_not_nought = λ e. omega arith;
  inverse = own-inverse;
  size = 3;
  element = λ i. i;
  element_valid = λ i l. l;
  element_distinct = λ i j l k e. e;
  element_all = λ a v. (a, v, refl);
}
