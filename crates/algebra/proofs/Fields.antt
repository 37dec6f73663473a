-- What follows from the laws of a finite field: equality is decided by the elements' numbers, and a product is zero only where a factor is.
use Prim.Native.Nat.{ℕ, ◌<◌}
use mathlib.Core.Logic.{◌⊎◌, inl, inr}
use mathlib.Core.Path.{◌≡◌, sym, ap, ◌∙◌}
use native.Mathlib.Decide.{ℕ_discrete}
use Rattle.algebra.specs.Arithmetic.{Arithmetic}
use Rattle.algebra.specs.Field.{FiniteField}
use Rattle.algebra.proofs.Rings.{unit-mul, mul-nought}

module _ (𝓐 : Arithmetic) (𝓕 : FiniteField 𝓐) where
  open 𝓐 use {Carrier, nought, unit, mul}
  open 𝓕 use {ring, inverse, element, element_distinct, element_all}
  open ring use {Valid, valid_nought, mul_comm, mul_assoc}

  pub decide : (a b : Carrier) → Valid a → Valid b → Dec (a ≡ b)
  decide a b v w = by-numbers (element_all a v) (element_all b w)
    where
      by-numbers : (i : ℕ) × (i < 𝓕.size) × (element i ≡ a) → (j : ℕ) × (j < 𝓕.size) × (element j ≡ b) → Dec (a ≡ b)
      by-numbers (i, li, ei) (j, lj, ej) =
          elim (ℕ_discrete i j) [
            | yes e ↦ yes (sym ei ∙ ap element e ∙ ej)
            | no d ↦ no (λ e. d (element_distinct i j li lj (ei ∙ e ∙ sym ej)))
          ]

  -- b = (c·a)·b = c·(a·b), with c the inverse of a
  pub no-zero-divisors : (a b : Carrier) → Valid a → Valid b → mul a b ≡ nought → (a ≡ nought) ⊎ (b ≡ nought)
  no-zero-divisors a b v w z = go (decide a nought v valid_nought)
    where
      other-nought : (c : Carrier) × Valid c × (mul a c ≡ unit) → b ≡ nought
      other-nought (c, u, e) =
          sym (unit-mul 𝓐 ring b w)
          ∙ ap (λ (x : Carrier). mul x b) (sym e ∙ mul_comm a c)
          ∙ mul_assoc c a b ∙ ap (mul c) z ∙ mul-nought 𝓐 ring c

      go : Dec (a ≡ nought) → (a ≡ nought) ⊎ (b ≡ nought)
      go (yes e) = inl e
      go (no d) = inr (other-nought (inverse a v d))
