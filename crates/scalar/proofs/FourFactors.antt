-- Four factors, one after the other or all at once, over any ring.
use mathlib.Core.Path.{◌≡◌, ap, ◌∙◌}
use Rattle.algebra.specs.Arithmetic.{Arithmetic}
use Rattle.algebra.specs.Field.{Ring}

module _ (𝓐 : Arithmetic) (𝓡 : Ring 𝓐) where
  open 𝓐 use {Carrier, mul}
  open 𝓡 use {mul_assoc}

  pub four-at-once : (begun w x y z : Carrier) → mul (mul (mul (mul begun w) x) y) z ≡ mul begun (mul (mul (mul w x) y) z)
  four-at-once begun w x y z =
      ap (λ (t : Carrier). mul t z) (ap (λ (t : Carrier). mul t y) (mul_assoc begun w x) ∙ mul_assoc begun (mul w x) y)
      ∙ mul_assoc begun (mul (mul w x) y) z
