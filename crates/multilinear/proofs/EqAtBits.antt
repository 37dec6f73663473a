-- eq at the bits of a number is the number's weight, over any ring.
use Prim.Native.Nat.{ℕ, ◌/◌, ◌%◌}
use mathlib.Core.Bool.{Bool, true, false, cond}
use mathlib.Core.List.{List, [], ◌∷◌}
use mathlib.Core.Path.{◌≡◌, refl, ap, ap₂, ◌∙◌}
use lib.Dec.{eqb}
use lib.ListN.{length}
use Rattle.algebra.specs.Arithmetic.{Arithmetic}
use Rattle.algebra.specs.Field.{Ring}
use Rattle.algebra.proofs.Rings.{unit-mul, nought-add, nought-mul}
use Rattle.multilinear.specs.Eq.{eq_factor, eq}
use Rattle.multilinear.specs.Weight.{weight, bits}
use Rattle.multilinear.proofs.Bits.{sub_self, sub-nought}

module _ (𝓐 : Arithmetic) (𝓡 : Ring 𝓐) where
  open 𝓐 use {Carrier, nought, unit, add, sub, mul}
  open 𝓡 use {Valid, valid_sub, add-nought}

  -- each number is an element of the ring
  abbrev pub AllValid : List Carrier → Type 0
  AllValid [] = Unit {0}
  AllValid (y ∷ ys) = Valid y × AllValid ys

  -- 1·y + (1 - 1)·(1 - y) = y
  pub eq-factor-unit : (y : Carrier) → Valid y → eq_factor 𝓐 unit y ≡ y
  eq-factor-unit y valid =
      ap₂ add (unit-mul 𝓐 𝓡 y valid)
      (ap (λ (x : Carrier). mul x (sub unit y)) (sub_self 𝓐 𝓡) ∙ nought-mul 𝓐 𝓡 (sub unit y))
      ∙ add-nought y valid

  -- 0·y + (1 - 0)·(1 - y) = 1 - y
  pub eq-factor-nought : (y : Carrier) → eq_factor 𝓐 nought y ≡ sub unit y
  eq-factor-nought y =
      ap₂ add (nought-mul 𝓐 𝓡 y)
      (ap (λ (x : Carrier). mul x (sub unit y)) (sub-nought 𝓐 𝓡) ∙ unit-mul 𝓐 𝓡 (sub unit y) (valid_sub unit y))
      ∙ nought-add 𝓐 𝓡 (sub unit y) (valid_sub unit y)

  pub eq-factor-bit : (bit : Bool) (y : Carrier) → Valid y → eq_factor 𝓐 (cond bit unit nought) y ≡ cond bit y (sub unit y)
  eq-factor-bit true y valid = eq-factor-unit y valid
  eq-factor-bit false y valid = eq-factor-nought y

  pub eq-bits : (a : ℕ) (y : List Carrier) → AllValid y → eq 𝓐 (bits 𝓐 (length y) a) y ≡ weight 𝓐 a y
  unfolding eq bits weight
  eq-bits a [] valid = refl
  eq-bits a (y ∷ ys) valid = ap₂ mul (eq-factor-bit (eqb (a % 2) 1) y valid.0) (eq-bits (a / 2) ys valid.1)
