-- `scalar::tests::none` meets its contract: numbers that are 0 are 0 together.
use Rattle.algebra.proofs.WholeNumberSums.{total-none}
use Rattle.scalar.proofs.tests.none.Goals as goal

pub returns : goal.returns
returns g c = total-none g.S.Scalar.elements.scalars.width (g.S.Scalar.size c.nothing.result) (λ i inside. c.nothing.ensures.small i)
