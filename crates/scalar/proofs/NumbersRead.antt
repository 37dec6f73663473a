-- Elements read from numbers below p: how many there are, and that each may be read and is one of the field.
use Prim.Native.Nat.{ℕ, suc, ◌*◌, ◌/◌, ◌≤◌, ◌<◌}
use mathlib.Core.List.{List}
use mathlib.Core.Path.{◌≡◌, sym, ap, ◌∙◌}
use native.Mathlib.Nat.{mul-div-le, mul-le-mul}
use native.Mathlib.Omega.{arith}
use lib.ListN.{length, get_or}
use Rattle.algebra.specs.Points.{Below}
use Rattle.field.specs.Fp.{p}
use Rattle.field.specs.Scalars.{element_at}
use Rattle.field.proofs.Elements.{element_valid}
use Rattle.scalar.specs.Elements.{Elements, LawfulElements}

module _ {E : Type 0} (𝓔 : Elements E) (𝓛 : LawfulElements E 𝓔) where
  -- as code counts them
  pub counted-is : (numbers : List ℕ) (width : ℕ) → width ≡ 𝓔.scalars.width → length numbers / width ≡ length (𝓔.scalars.elements numbers)
  counted-is numbers width e = ap (λ (w : ℕ). length numbers / w) e ∙ sym (𝓛.counted numbers)

  module _ (numbers : List ℕ) (below : Below p numbers) (i : ℕ) (l : i < length (𝓔.scalars.elements numbers)) where
    there : 𝓔.scalars.width * suc i ≤ length numbers
    there =
        let next : suc i ≤ length numbers / 𝓔.scalars.width = omega (arith, 𝓛.counted numbers) in
        let same : 𝓔.scalars.width ≤ 𝓔.scalars.width = omega arith in
        omega (arith, mul-le-mul same next, mul-div-le (length numbers) 𝓔.scalars.width)

    pub valid-at : 𝓛.lawful.field.ring.Valid (get_or (𝓔.scalars.elements numbers) i 𝓔.scalars.arithmetic.nought)
    valid-at = element_valid 𝓔.scalars 𝓛.lawful numbers i there below

    pub readable : (𝓔.scalars.width * suc i ≤ length numbers) × Below p (𝓔.scalars.numbers (element_at 𝓔.scalars numbers i))
    readable = (there, 𝓛.lawful.numbers_below _ valid-at)
