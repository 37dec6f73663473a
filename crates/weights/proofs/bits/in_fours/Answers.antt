-- `weights::bits::in_fours` meets its contract: four factors a turn, and the factors that are left are a part of those before.
use Prim.Native.Nat.{◌-◌, ◌*◌, ◌/◌, ◌≤◌}
use mathlib.Core.List.{List}
use mathlib.Core.Path.{◌≡◌, refl}
use native.Mathlib.Omega.{arith}
use lib.ListN.{length, take, drop}
use Rattle.weights.specs.Side.{pairs}
use Rattle.weights.proofs.TableFactors.{part_length, part-weight}
use Rattle.weights.proofs.WeightProduct.{weighing-onward, weighing-left, weighing-done}
use Rattle.weights.proofs.bits.in_fours.Goals as goal

-- the factors that a turn leaves
abbrev after : {E : Type 0} → List E → List E
after left = take (length left - 8) (drop 8 left)

pub loop-left-preserved : goal.loop-left-preserved
loop-left-preserved g c =
    let 𝓔 = g.S.Scalar.elements in
    let 𝓐 = 𝓔.scalars.arithmetic in
    let 𝓡 = g.S.Scalar.lawful.lawful.field.ring in
    let left = c.loop-left.left.now in
    let inside : 8 ≤ length left = omega (arith, c.loop-left-test.true, c.loop-left.invariant.1) in
    let size : length (after left) ≡ length left - 8 = part_length left 8 (length left - 8) (omega (arith, inside)) in
    let bits : length (after left) / 2 ≡ length left / 2 - 4 = omega (arith, size) in
    let all : length left - 8 ≡ 2 * (length (after left) / 2) = omega (arith, size, inside, c.loop-left.invariant.1) in (
      weighing-left 𝓐 (pairs 𝓔 left) _ _ (length left / 2) (g.S.Scalar.product c.four-product.result) (c.loop-left.rest / 16) 4
          (length (after left) / 2) bits
          (part-weight 𝓔 left 8 (length left - 8) 4 (length (after left) / 2) (c.loop-left.rest / 16) refl all)
          (weighing-onward 𝓐 𝓡 (pairs 𝓔 left) _ (length left / 2) (g.S.Scalar.product c.loop-left.product) c.loop-left.rest 0 4 _ _
          (omega (arith, inside, c.loop-left.invariant.1)) refl c.four-product.ensures c.loop-left.invariant.0),
      omega (arith, size, inside, c.loop-left.invariant.1),
    )

pub returns : goal.returns
returns g c =
    weighing-done g.S.Scalar.elements.scalars.arithmetic g.S.Scalar.lawful.lawful.field.ring
    (pairs g.S.Scalar.elements c.loop-left.left.now) _ (length c.loop-left.left.now / 2) _ _ 0
    (g.met.S.Scalar.valid c.loop-left.product) (omega (arith, c.loop-left-test.false)) c.loop-left.invariant.0
