-- `weights::limbs::limb_by_limb` meets its contract: the weight from limbs, times the factors behind them.
use mathlib.Core.Path.{refl}
use Rattle.weights.specs.Side.{pairs}
use Rattle.weights.proofs.WeightProduct.{weight-onward}
use Rattle.weights.proofs.limbs.limb_by_limb.Goals as goal

pub returns : goal.returns
returns g c =
    let (first, last, weighed) = c.in_limbs-part.ensures in
    weight-onward g.S.Scalar.elements.scalars.arithmetic g.S.Scalar.lawful.lawful.field.ring
    (pairs g.S.Scalar.elements c.args.table.now) c.args.a c.args.from c.in_limbs-part.result.at c.args.to _
    (g.S.Scalar.product c.in_limbs-part.result.weight) (g.S.Scalar.product c.singly.result) first last refl weighed c.singly.ensures
