-- `weights::limbs::whole_limbs` meets its contract: one limb a turn.
use Prim.Native.Nat.{ℕ, ◌+◌, ◌*◌}
use mathlib.Core.Path.{◌≡◌, ap, ◌∙◌}
use native.Mathlib.Omega.{arith}
use Rattle.multilinear.specs.Eq.{bitwise}
use Rattle.weights.specs.Side.{pairs}
use Rattle.weights.proofs.WeightProduct.{weighing-onward, weighing-done}
use Rattle.weights.proofs.limbs.whole_limbs.Goals as goal

pub returns-then-to-from : goal.returns-then-to-from
returns-then-to-from g c =
    weighing-done g.S.Scalar.elements.scalars.arithmetic g.S.Scalar.lawful.lawful.field.ring
    (pairs g.S.Scalar.elements c.args.table.now) _ (5 * c.args.to) _ _ (5 * (c.args.from + c.loop-turn.turn))
    (g.met.S.Scalar.valid c.loop-turn.product) (omega (arith, c.if-to-from.true)) c.loop-turn.invariant.0

pub loop-turn-preserved : goal.loop-turn-preserved
loop-turn-preserved g c =
    let 𝓔 = g.S.Scalar.elements in
    let 𝓐 = 𝓔.scalars.arithmetic in
    let at = 5 * (c.args.from + c.loop-turn.turn) in
    let here : at + 0 ≡ at = omega arith in
    let next : 5 * (c.args.from + (c.loop-turn.turn + 1)) ≡ at + 5 = omega arith in (
      rw next
          (weighing-onward 𝓐 g.S.Scalar.lawful.lawful.field.ring (pairs 𝓔 c.args.table.now) _ (5 * c.args.to)
          (g.S.Scalar.product c.loop-turn.product) c.loop-turn.rest at 5 _ _
          (omega (arith, c.if-to-from.false, c.loop-turn.invariant.0.within))
          (c.limb_weight.ensures ∙ ap (λ (i : ℕ). bitwise 𝓐 (pairs 𝓔 c.args.table.now) 5 i c.loop-turn.rest) here)
          c.times_in_turn-product.ensures.is c.loop-turn.invariant.0),
      omega (arith, c.loop-turn-test.true),
      c.times_in_turn-product.ensures.next,
    )

pub returns : goal.returns
returns g c =
    weighing-done g.S.Scalar.elements.scalars.arithmetic g.S.Scalar.lawful.lawful.field.ring
    (pairs g.S.Scalar.elements c.args.table.now) _ (5 * c.args.to) _ _ (5 * (c.args.from + c.loop-turn.turn))
    (g.met.S.Scalar.valid c.loop-turn.product) (omega (arith, c.loop-turn-test.false, c.requires.1, c.requires.3.few))
    c.loop-turn.invariant.0
