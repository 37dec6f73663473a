-- `scalar::of_quadratic::Fp2Scalar::nothing` meets its contract: both parts are 0.
use mathlib.Core.Path.{ap}
use Rattle.quadratic.specs.declared.unreduced.Wide.{Wide}
use Rattle.quadratic.proofs.PartSizes.{none}
use Rattle.scalar.proofs.of_quadratic.Fp2Scalar.nothing.Goals as goal

pub returns-clause-small : goal.returns-clause-small
returns-clause-small c = none _ (ap (λ (x : Wide). x.u) c.zero.ensures) (ap (λ (x : Wide). x.v) c.zero.ensures)
