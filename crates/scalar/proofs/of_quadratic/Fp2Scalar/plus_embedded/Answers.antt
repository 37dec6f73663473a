-- `scalar::of_quadratic::Fp2Scalar::plus_embedded` meets its contract: each part of what is added is below 2^33 + 2^31.
use mathlib.Core.Path.{ap}
use native.Mathlib.Omega.{arith}
use Rattle.quadratic.specs.declared.unreduced.Wide.{Wide}
use Rattle.quadratic.proofs.PartSizes.{both-under, little-more}
use Rattle.scalar.proofs.of_quadratic.Fp2Scalar.plus_embedded.Goals as goal

pub plus-requires : goal.plus-requires
plus-requires c =
    let under = both-under _ _ c.requires in
    (omega (arith, under.0, c.scaled.ensures.1.0), omega (arith, under.1, c.scaled.ensures.1.1))

pub returns-clause-little : goal.returns-clause-little
returns-clause-little c =
    little-more _ _ _
    (omega (arith, c.scaled.ensures.1.0, ap (λ (x : Wide). x.u) c.plus.ensures), omega (arith, c.scaled.ensures.1.1, ap (λ (x : Wide). x.v) c.plus.ensures))
