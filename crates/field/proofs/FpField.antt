-- The numbers below p, with the operations of `fp`, are a finite field.
use Prim.Native.Nat.{ℕ, ◌*◌, ◌%◌, ◌<◌}
use mathlib.Core.Path.{◌≡◌, refl, ◌∙◌}
use native.Mathlib.Nat.{mod-lt, mod-add-mod, add-mod-mod, add-mod, add_assoc, mul_comm, mul_assoc, mul-add}
use native.Mathlib.Omega.{arith}
use Rattle.algebra.specs.Field.{Ring, FiniteField}
use Rattle.field.specs.Fp.{p, fp}
use Rattle.field.proofs.Inverses.{inverse}
use Rattle.field.proofs.PIsPrime.{p-prime}
use Rattle.field.proofs.Remainders.{mod-mul-mod, mul-mod-mod}

unfoldable pub fp-ring : Ring fp
fp-ring = record {
  Valid = λ a. a < p;
  valid_nought = omega arith;
  valid_unit = omega arith;
  valid_add = λ a b. mod-lt _ (omega arith);
  valid_sub = λ a b. mod-lt _ (omega arith);
  valid_mul = λ a b. mod-lt _ (omega arith);
  add_comm = λ a b. omega arith;
  add_assoc = λ a b c. simp (mod-add-mod, add-mod-mod, add_assoc);
  add-nought = λ a v. omega arith;
  sub-add = λ a b v w. omega arith;
  mul_comm = λ a b. rw (mul_comm a b);
  mul_assoc = λ a b c. simp (mod-mul-mod, mul-mod-mod, mul_assoc);
  mul-unit = λ a v. omega arith;
  mul-add = λ a b c. rw (mul-mod-mod, ← add-mod, mul-add);
}

pub inverse-below : (a : ℕ) → a < p → (a ≡ 0 → ⊥) → (c : ℕ) × (c < p) × ((a * c) % p ≡ 1)
inverse-below a lt some =
    let (c, e) = inverse p p-prime a (omega arith) lt in (c % p, mod-lt c (omega arith), mul-mod-mod a c p ∙ e)

unfoldable pub fp-field : FiniteField fp
unfolding fp-ring
fp-field = record {
  ring = fp-ring;
  unit_not_nought = λ h. omega arith;
  inverse = inverse-below;
  size = p;
  element = λ i. i;
  element_valid = λ i h. h;
  element_distinct = λ i j hi hj h. h;
  element_all = λ a v. (a, v, refl);
}

pub fp-size : fp-field.size ≡ p
unfolding fp-field
fp-size = refl
