-- `weights::limbs::thirty` meets its contract: the rest of the first limb is read, and the others are multiplied to it.
use Prim.Native.Nat.{ℕ, ◌+◌, ◌-◌, ◌*◌, ◌/◌, ◌^◌}
use mathlib.Core.Path.{◌≡◌, ap, ap₂, ◌∙◌}
use native.Mathlib.Omega.{arith}
use Rattle.multilinear.specs.Eq.{bitwise}
use Rattle.weights.specs.Side.{pairs}
use Rattle.weights.proofs.WeightProduct.{weight-onward}
use Rattle.weights.proofs.limbs.thirty.Goals as goal

pub returns : goal.returns
returns g c =
    let 𝓔 = g.S.Scalar.elements in
    let 𝓐 = 𝓔.scalars.arithmetic in
    let from = c.args.from in
    let bits : 5 - from ≡ 5 * 1 - from = omega arith in
    let here : 5 * 0 + (5 - (5 - from)) ≡ from = omega (arith, c.requires.0) in
    weight-onward 𝓐 g.S.Scalar.lawful.lawful.field.ring (pairs 𝓔 c.args.table.now) c.args.a from (5 * 1) 30 _
    (𝓔.element c.limb_weight-begun.result) (g.S.Scalar.product c.whole_limbs.result) (omega (arith, c.requires.0))
    (omega arith) (ap (λ (n : ℕ). c.args.a / 2 ^ n) bits)
    (c.limb_weight-begun.ensures ∙ ap₂ (λ (n i : ℕ). bitwise 𝓐 (pairs 𝓔 c.args.table.now) n i c.args.a) bits here)
    c.whole_limbs.ensures
