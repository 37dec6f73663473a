-- `weights::bits::four` meets its contract: the four factors are those of the lowest bits.
use mathlib.Core.Path.{ap, ◌∙◌}
use Rattle.weights.proofs.TableFactors.{four-factors}
use Rattle.weights.proofs.bits.four.Goals as goal

pub returns : goal.returns
returns g c =
    c.times_four.ensures
    ∙ ap (g.S.Scalar.elements.scalars.arithmetic.mul (g.S.Scalar.product c.args.begun))
    (four-factors g.S.Scalar.elements g.S.Scalar.lawful c.args.factors.now c.args.a _ _ _ _ c.single.ensures c.single-2.ensures
    c.single-3.ensures c.single-4.ensures)
