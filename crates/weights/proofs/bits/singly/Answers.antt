-- `weights::bits::singly` meets its contract: one factor a turn.
use mathlib.Core.Path.{◌∙◌}
use native.Mathlib.Omega.{arith}
use Rattle.weights.specs.Side.{pairs}
use Rattle.weights.proofs.TableFactors.{factor-alone}
use Rattle.weights.proofs.WeightProduct.{weighing-onward, weighing-done}
use Rattle.weights.proofs.bits.singly.Goals as goal

pub loop-i-preserved : goal.loop-i-preserved
loop-i-preserved g c =
    weighing-onward g.S.Scalar.elements.scalars.arithmetic g.S.Scalar.lawful.lawful.field.ring
    (pairs g.S.Scalar.elements c.args.table.now) _ c.args.to (g.S.Scalar.product c.loop-i.product) c.loop-i.rest c.loop-i.i 1 _
    (g.S.Scalar.elements.element c.single.result) (omega (arith, c.loop-i-test.true))
    (c.single.ensures
    ∙ factor-alone g.S.Scalar.elements g.S.Scalar.lawful c.args.table.now c.loop-i.i c.loop-i.rest)
    c.times-product.ensures c.loop-i.invariant

pub returns : goal.returns
returns g c =
    weighing-done g.S.Scalar.elements.scalars.arithmetic g.S.Scalar.lawful.lawful.field.ring
    (pairs g.S.Scalar.elements c.args.table.now) _ c.args.to _ _ c.loop-i.i
    (g.met.S.Scalar.valid c.loop-i.product) (omega (arith, c.loop-i-test.false)) c.loop-i.invariant
