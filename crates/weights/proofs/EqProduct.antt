-- eq as its factors are multiplied, from the first on, over any ring.
use Prim.Native.Nat.{ℕ, zero, suc, ◌+◌, ◌≤◌, ◌<◌}
use mathlib.Core.List.{List, [], ◌∷◌}
use mathlib.Core.Path.{◌≡◌, sym, ap, ap₂, ◌∙◌}
use native.Mathlib.Omega.{arith}
use lib.ListN.{length, get_or, drop}
use lib.Seq.{drop-nil, drop-cons}
use Rattle.algebra.specs.Arithmetic.{Arithmetic}
use Rattle.algebra.specs.Field.{Ring}
use Rattle.algebra.proofs.Rings.{unit-mul}
use Rattle.multilinear.specs.Eq.{eq_factor, eq}

-- the product so far, times eq of what is left, is the whole
pub record Multiplying (𝓐 : Arithmetic) (𝓡 : Ring 𝓐) (x y : List 𝓐.Carrier) (product : 𝓐.Carrier) (i : ℕ) : Type 0 where
  pub is : 𝓐.mul product (eq 𝓐 (drop i x) (drop i y)) ≡ eq 𝓐 x y
  pub valid : 𝓡.Valid product

module _ (𝓐 : Arithmetic) (𝓡 : Ring 𝓐) where
  open 𝓐 use {Carrier, nought, unit, mul}
  open 𝓡 use {Valid, valid_unit, valid_mul, mul_assoc, mul-unit}

  drop_all : (n : ℕ) (list : List Carrier) → length list ≤ n → drop n list ≡ []
  drop_all n [] l = drop-nil n
  drop_all zero (x ∷ list) l = absurd (omega arith)
  drop_all (suc n) (x ∷ list) l = drop_all n list (omega arith)

  eq-valid : (x y : List Carrier) → Valid (eq 𝓐 x y)
  unfolding eq
  eq-valid [] y = valid_unit
  eq-valid (a ∷ x) [] = valid_unit
  eq-valid (a ∷ x) (b ∷ y) = valid_mul (eq_factor 𝓐 a b) (eq 𝓐 x y)

  module _ (x y : List Carrier) where
    pub multiplying-begun : Multiplying 𝓐 𝓡 x y unit 0
    multiplying-begun = record { is = unit-mul 𝓐 𝓡 (eq 𝓐 x y) (eq-valid x y); valid = valid_unit }

    module _ (product : Carrier) (i : ℕ) (so_far : Multiplying 𝓐 𝓡 x y product i) where
      pub multiplying-turn : (factor : Carrier) → i < length x → i < length y →
          factor ≡ eq_factor 𝓐 (get_or x i nought) (get_or y i nought) → Multiplying 𝓐 𝓡 x y (mul product factor) (i + 1)
      unfolding eq
      multiplying-turn factor l m e =
          let next : i + 1 ≡ suc i = omega arith in
          record {
            is =
                mul_assoc product factor (eq 𝓐 (drop (i + 1) x) (drop (i + 1) y))
                ∙ ap₂ (λ (f : Carrier) (n : ℕ). mul product (mul f (eq 𝓐 (drop n x) (drop n y)))) e next
                ∙ ap (mul product) (sym (ap₂ (eq 𝓐) (drop-cons x i nought l) (drop-cons y i nought m)))
                ∙ so_far.is;
            valid = valid_mul product factor;
          }

      pub multiplying-done : length x ≤ i → product ≡ eq 𝓐 x y
      unfolding eq
      multiplying-done l =
          sym (mul-unit product so_far.valid)
          ∙ ap (λ (list : List Carrier). mul product (eq 𝓐 list (drop i y))) (sym (drop_all i x l))
          ∙ so_far.is
