-- The numbers u + v·i, with the operations of `fp2`, are a finite field of p² elements.
use Prim.Native.Nat.{ℕ, ◌+◌, ◌*◌, ◌/◌, ◌%◌}
use mathlib.Core.Path.{◌≡◌, sym, ap, ap₂, ◌∙◌}
use native.Mathlib.Nat.{mod-lt}
use native.Mathlib.Omega.{arith}
use Rattle.algebra.specs.Field.{Ring, FiniteField}
use Rattle.field.specs.Fp.{p}
use Rattle.field.proofs.FpField.{fp-ring, inverse-below}
use Rattle.field.proofs.Remainders.{same_rest, mod-mul-mod}
use Rattle.quadratic.specs.Fp2.{TwoParts, Reduced, fp2}
use Rattle.quadratic.proofs.MinusOneNoSquare.{two-squares}
use Rattle.quadratic.proofs.Products.{
  parts-equal,
  reduced,
  plus,
  times,
  add-reduced,
  mul_is,
  times-comm,
  times-assoc,
  times-plus,
  left-reduced,
  right-reduced,
}

unfoldable pub fp2-ring : Ring fp2
unfolding fp-ring
fp2-ring = record {
  Valid = Reduced;
  valid_nought = (omega arith, omega arith);
  valid_unit = (omega arith, omega arith);
  valid_add = λ x y. (mod-lt _ (omega arith), mod-lt _ (omega arith));
  valid_sub = λ x y. (mod-lt _ (omega arith), mod-lt _ (omega arith));
  valid_mul = λ x y. (mod-lt _ (omega arith), mod-lt _ (omega arith));
  add_comm = λ x y. parts-equal (fp-ring.add_comm x.u y.u) (fp-ring.add_comm x.v y.v);
  add_assoc = λ x y z. parts-equal (fp-ring.add_assoc x.u y.u z.u) (fp-ring.add_assoc x.v y.v z.v);
  add-nought = λ x valid. parts-equal (omega arith) (omega arith);
  sub-add = λ x y valid valid'. parts-equal (omega arith) (omega arith);
  mul_comm = λ x y. mul_is x y ∙ ap (λ (t : TwoParts). reduced t) (times-comm x y) ∙ sym (mul_is y x);
  mul_assoc = λ x y z.
      ap (λ (t : TwoParts). fp2.mul t z) (mul_is x y)
      ∙ mul_is (reduced (times x y)) z
      ∙ left-reduced (times x y) z
      ∙ ap (λ (t : TwoParts). reduced t) (times-assoc x y z)
      ∙ sym (right-reduced x (times y z))
      ∙ sym (mul_is x (reduced (times y z)))
      ∙ ap (λ (t : TwoParts). fp2.mul x t) (sym (mul_is y z));
  mul-unit = λ x valid. parts-equal (omega arith) (omega arith);
  mul-add = λ x y z.
      mul_is x (fp2.add y z)
      ∙ right-reduced x (plus y z)
      ∙ ap (λ (t : TwoParts). reduced t) (times-plus x y z)
      ∙ sym (add-reduced (times x y) (times x z))
      ∙ sym (ap₂ (λ (s t : TwoParts). fp2.add s t) (mul_is x y) (mul_is x z));
}

-- Inverses: with c the inverse of the norm u² + v², that of u + v·i is (u - v·i)·c.
module _ (a b c : ℕ) (inverse : ((a * a + b * b) % p * c) % p ≡ 1) where
  abbrev conjugate : TwoParts
  conjugate = record { u = a * c; v = 2147483646 * (b * c) }

  norm : (a * (a * c) + 2147483646 * (b * (2147483646 * (b * c)))) % p ≡ ((a * a + b * b) * c) % p
  norm =
      same_rest p (a * (a * c) + 2147483646 * (b * (2147483646 * (b * c)))) ((a * a + b * b) * c)
      0 (2147483645 * (b * b * c)) (omega arith)

  conjugate-inverts : reduced (times (record { u = a; v = b }) (reduced conjugate)) ≡ fp2.unit
  conjugate-inverts =
      right-reduced (record { u = a; v = b }) conjugate
      ∙ parts-equal
      (norm ∙ sym (mod-mul-mod (a * a + b * b) c p) ∙ inverse)
      (same_rest p (a * (2147483646 * (b * c)) + b * (a * c)) 0 0 (a * b * c) (omega arith))

pub fp2-inverse : (x : TwoParts) → Reduced x → (x ≡ fp2.nought → ⊥) →
    (y : TwoParts) × Reduced y × (fp2.mul x y ≡ fp2.unit)
fp2-inverse x valid some =
    let (c, small, e) =
    inverse-below ((x.u * x.u + x.v * x.v) % p) (mod-lt _ (omega arith))
    (λ z. let h = two-squares x.u x.v valid.0 valid.1 z in some (parts-equal h.0 h.1)) in (
      reduced (conjugate x.u x.v c e),
      (mod-lt _ (omega arith), mod-lt _ (omega arith)),
      mul_is x (reduced (conjugate x.u x.v c e)) ∙ conjugate-inverts x.u x.v c e,
    )

-- The elements are numbered by u + p·v.

unfoldable pub fp2-field : FiniteField fp2
unfolding fp2-ring
fp2-field = record {
  ring = fp2-ring;
  unit_not_nought = λ h. unequal (ap (λ (x : TwoParts). x.u) h);
  inverse = fp2-inverse;
  size = 4611686014132420609;
  element = λ i. record { u = i % p; v = i / p };
  element_valid = λ i l. (mod-lt _ (omega arith), omega arith);
  element_distinct = λ i j l l' h. same_digits i j (ap (λ (x : TwoParts). x.u) h) (ap (λ (x : TwoParts). x.v) h);
  element_all = λ x valid. (x.u + p * x.v, omega arith, parts-equal (omega arith) (omega arith));
}
  where
    unequal : ◌≡◌ {A = ℕ} 1 0 → ⊥
    unequal h = omega arith

    same_digits : (i j : ℕ) → i % p ≡ j % p → i / p ≡ j / p → i ≡ j
    same_digits i j e f = omega arith
