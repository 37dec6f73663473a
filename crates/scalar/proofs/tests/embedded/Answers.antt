-- `scalar::tests::embedded` meets its contract: a number is at most all together, and at most two grow.
use native.Mathlib.Omega.{arith}
use Rattle.algebra.proofs.WholeNumberSums.{total-term}
use Rattle.scalar.proofs.SizesTogether.{little-together}
use Rattle.scalar.proofs.tests.embedded.Goals as goal

pub plus_embedded-requires : goal.plus_embedded-requires
plus_embedded-requires g c i inside =
    omega (arith, c.requires, total-term g.S.Scalar.elements.scalars.width (g.S.Scalar.size c.args.total) i inside)

pub returns : goal.returns
returns g c =
    little-together g.S.Scalar.elements.scalars.width (g.S.Scalar.size c.args.total) (g.S.Scalar.size c.plus_embedded.result) g.met.S.Scalar.narrow
    c.plus_embedded.ensures.little
