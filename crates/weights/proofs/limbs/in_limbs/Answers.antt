-- `weights::limbs::in_limbs` meets its contract: the first limb is read, and the others are multiplied to it.
use Prim.Native.Nat.{ℕ, ◌+◌, ◌-◌, ◌*◌, ◌/◌, ◌^◌, ◌≤◌}
use mathlib.Core.Path.{◌≡◌, refl, ap, ap₂, ◌∙◌}
use native.Mathlib.Omega.{arith}
use Rattle.multilinear.specs.Eq.{bitwise}
use Rattle.weights.specs.Side.{pairs}
use Rattle.weights.proofs.WeightProduct.{weight-read, weight-onward}
use Rattle.weights.proofs.limbs.in_limbs.Goals as goal

pub returns-then-ends-limb : goal.returns-then-ends-limb
unfolding bitwise
returns-then-ends-limb g c =
    let none : 0 ≡ c.args.from - c.args.from = omega arith in (
      omega arith,
      c.requires.0,
      weight-read g.S.Scalar.elements.scalars.arithmetic (pairs g.S.Scalar.elements c.args.table.now) c.args.a c.args.from c.args.from 0
          c.args.from _ none refl (c.begun.ensures.is ∙ c.one.ensures),
    )

pub returns : goal.returns
returns g c =
    let 𝓔 = g.S.Scalar.elements in
    let 𝓐 = 𝓔.scalars.arithmetic in
    let from = c.args.from in
    let first : 5 * (from / 5) + 5 ≤ c.args.to = omega (arith, c.if-ends-limb.false) in
    let bits : 5 * (from / 5) + 5 - from ≡ 5 * (from / 5 + 1) - from = omega arith in
    let here : 5 * (from / 5) + (5 - (5 * (from / 5) + 5 - from)) ≡ from = omega arith in (
      omega (arith, first),
      omega arith,
      weight-onward 𝓐 g.S.Scalar.lawful.lawful.field.ring (pairs 𝓔 c.args.table.now) c.args.a from (5 * (from / 5 + 1))
          (5 * (c.args.to / 5)) _ (𝓔.element c.limb_weight-begun.result) (g.S.Scalar.product c.further_limbs.result) (omega arith)
          (omega (arith, first)) (ap (λ (n : ℕ). c.args.a / 2 ^ n) bits)
          (c.limb_weight-begun.ensures ∙ ap₂ (λ (n i : ℕ). bitwise 𝓐 (pairs 𝓔 c.args.table.now) n i c.args.a) bits here)
          c.further_limbs.ensures,
    )
