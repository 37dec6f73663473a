-- The weight of a number in two parts: the low bits go with the first coordinates, the high bits with the others.
use Prim.Native.Nat.{ℕ, zero, suc, ◌+◌, ◌*◌, ◌/◌, ◌%◌, ◌^◌, ◌<◌}
use mathlib.Core.Bool.{cond}
use mathlib.Core.List.{List, [], ◌∷◌}
use mathlib.Core.Path.{◌≡◌, sym, ap, ap₂, ◌∙◌}
use native.Mathlib.Nat.{pow-suc}
use native.Mathlib.Omega.{arith}
use lib.Dec.{eqb}
use lib.ListN.{take, drop}
use Rattle.algebra.specs.Arithmetic.{Arithmetic}
use Rattle.algebra.specs.Field.{Ring}
use Rattle.algebra.proofs.Rings.{unit-mul}
use Rattle.multilinear.specs.Weight.{weight}

module _ (𝓐 : Arithmetic) (𝓡 : Ring 𝓐) where
  open 𝓐 use {Carrier, unit, sub, mul}
  open 𝓡 use {Valid, valid_unit, valid_mul, mul_assoc}

  pub weight-valid : (a : ℕ) (r : List Carrier) → Valid (weight 𝓐 a r)
  unfolding weight
  weight-valid a [] = valid_unit
  weight-valid a (r ∷ rs) = valid_mul (cond (eqb (a % 2) 1) r (sub unit r)) (weight 𝓐 (a / 2) rs)

  pub weight-split : (K a z : ℕ) (r : List Carrier) → z < 2 ^ K →
      weight 𝓐 (a * 2 ^ K + z) r ≡ mul (weight 𝓐 z (take K r)) (weight 𝓐 a (drop K r))
  unfolding weight
  weight-split zero a z r l = ap (λ (n : ℕ). weight 𝓐 n r) whole ∙ sym (unit-mul 𝓐 𝓡 (weight 𝓐 a r) (weight-valid a r))
    where
      whole : a * 2 ^ zero + z ≡ a
      whole = omega arith
  weight-split (suc K) a z [] l = sym (unit-mul 𝓐 𝓡 unit valid_unit)
  weight-split (suc K) a z (r ∷ rs) l =
      ap₂ (λ (bit : ℕ) (n : ℕ). mul (factor bit) (weight 𝓐 n rs)) low high
      ∙ ap (mul (factor (z % 2))) (weight-split K a (z / 2) rs below)
      ∙ sym (mul_assoc (factor (z % 2)) (weight 𝓐 (z / 2) (take K rs)) (weight 𝓐 a (drop K rs)))
    where
      factor : ℕ → Carrier
      factor bit = cond (eqb bit 1) r (sub unit r)

      low : (a * 2 ^ suc K + z) % 2 ≡ z % 2
      low = rw pow-suc (omega arith)

      high : (a * 2 ^ suc K + z) / 2 ≡ a * 2 ^ K + z / 2
      high = rw pow-suc (omega arith)

      below : z / 2 < 2 ^ K
      below = omega (arith, pow-suc 2 K)
