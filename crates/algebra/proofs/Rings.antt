-- What follows from the laws of a commutative ring: the laws turned round, cancelling, and zero as a factor.
use mathlib.Core.Path.{◌≡◌, sym, ap, ap₂, ◌∙◌}
use Rattle.algebra.specs.Arithmetic.{Arithmetic}
use Rattle.algebra.specs.Field.{Ring}

module _ (𝓐 : Arithmetic) (𝓡 : Ring 𝓐) where
  open 𝓐 use {Carrier, nought, unit, add, sub, mul}
  open 𝓡 use {Valid, valid_nought, valid_mul, add_comm, add_assoc, add-nought, sub-add, mul_comm, mul-unit, mul-add}

  pub nought-add : (a : Carrier) → Valid a → add nought a ≡ a
  nought-add a v = add_comm nought a ∙ add-nought a v

  pub unit-mul : (a : Carrier) → Valid a → mul unit a ≡ a
  unit-mul a v = mul_comm unit a ∙ mul-unit a v

  pub add-mul : (a b c : Carrier) → mul (add a b) c ≡ add (mul a c) (mul b c)
  add-mul a b c = mul_comm (add a b) c ∙ mul-add c a b ∙ ap₂ add (mul_comm c a) (mul_comm c b)

  -- (a + b) + (c + d) = (a + c) + (b + d)
  pub add-swap : (a b c d : Carrier) → add (add a b) (add c d) ≡ add (add a c) (add b d)
  add-swap a b c d =
      add_assoc a b (add c d)
      ∙ ap (add a) (sym (add_assoc b c d) ∙ ap (λ (x : Carrier). add x d) (add_comm b c) ∙ add_assoc c b d)
      ∙ sym (add_assoc a c (add b d))

  -- (a + z) + (0 - z) = a
  add-sub : (a z : Carrier) → Valid a → Valid z → add (add a z) (sub nought z) ≡ a
  add-sub a z v w =
      add_assoc a z (sub nought z)
      ∙ ap (add a) (add_comm z (sub nought z) ∙ sub-add nought z valid_nought w)
      ∙ add-nought a v

  pub cancel : (a b z : Carrier) → Valid a → Valid b → Valid z → add a z ≡ add b z → a ≡ b
  cancel a b z v w u e = sym (add-sub a z v u) ∙ ap (λ (x : Carrier). add x (sub nought z)) e ∙ add-sub b z w u

  pub cancel-nought : (a z : Carrier) → Valid a → Valid z → add a z ≡ z → a ≡ nought
  cancel-nought a z v w e = cancel a nought z v valid_nought w (e ∙ sym (nought-add z w))

  -- what differs by nought is equal
  pub equal : (a b : Carrier) → Valid a → Valid b → sub a b ≡ nought → a ≡ b
  equal a b v w e = sym (sub-add a b v w) ∙ ap (λ (z : Carrier). add z b) e ∙ nought-add b w

  -- a·0 + a·0 = a·(0 + 0) = a·0
  pub mul-nought : (a : Carrier) → mul a nought ≡ nought
  mul-nought a =
      cancel-nought (mul a nought) (mul a nought) (valid_mul a nought) (valid_mul a nought)
      (sym (mul-add a nought nought) ∙ ap (mul a) (add-nought nought valid_nought))

  pub nought-mul : (a : Carrier) → mul nought a ≡ nought
  nought-mul a = mul_comm nought a ∙ mul-nought a
