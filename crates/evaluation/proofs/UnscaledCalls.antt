-- A call of the factor 1, as every call of edition 1 is, adds the called array's values weighed by its two factors alone.
use Prim.Native.Nat.{ℕ}
use mathlib.Core.List.{List}
use mathlib.Core.Path.{◌≡◌, ap, ◌∙◌}
use Rattle.algebra.proofs.Rings.{unit-mul}
use Rattle.field.specs.Scalars.{Scalars, Lawful}
use Rattle.arrays.specs.Arrays.{Call, Array, array_at}
use Rattle.arrays.specs.Factors.{call_factors}
use Rattle.arrays.specs.Side.{Side}
use Rattle.evaluation.specs.Evaluate.{Counted}
use Rattle.evaluation.specs.Inner.{sheet_values, added_to, call_added}

module _ (𝓢 : Scalars) (𝓛 : Lawful 𝓢) (arrays : List Array) (S S' : Side 𝓢.arithmetic) (sheet : List ℕ) (k k' : ℕ) where
  pub call-unscaled : (sum : Counted 𝓢) (c : Call) → c.factor ≡ 1 →
      call_added 𝓢 arrays S S' sheet k k' sum c
      ≡ added_to 𝓢 sum (sheet_values 𝓢 sheet c.id)
      (𝓢.arithmetic.mul (S.factor k (array_at arrays c.id).row_bits c.down)
      (S'.factor k' (array_at arrays c.id).column_bits c.right))
      (call_factors k k' (array_at arrays c.id))
  call-unscaled sum c e =
      ap (λ (w : 𝓢.arithmetic.Carrier). added_to 𝓢 sum (sheet_values 𝓢 sheet c.id) w (call_factors k k' (array_at arrays c.id)))
      (ap (λ (n : ℕ). 𝓢.arithmetic.mul (𝓢.embed n) weight) e
      ∙ ap (λ (u : 𝓢.arithmetic.Carrier). 𝓢.arithmetic.mul u weight) 𝓛.respects.on_unit
      ∙ unit-mul 𝓢.arithmetic 𝓛.field.ring weight (𝓛.field.ring.valid_mul _ _))
    where
      weight : 𝓢.arithmetic.Carrier
      weight =
          𝓢.arithmetic.mul (S.factor k (array_at arrays c.id).row_bits c.down)
          (S'.factor k' (array_at arrays c.id).column_bits c.right)
