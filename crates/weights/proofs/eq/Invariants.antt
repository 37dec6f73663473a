use Rattle.weights.proofs.EqProduct.{Multiplying}
use Rattle.weights.proofs.eq.Given as goal

abbrev pub invariant-loop-i : goal.invariant-loop-i
invariant-loop-i g l =
    let 𝓔 = g.S.Scalar.elements in
    Multiplying 𝓔.scalars.arithmetic g.S.Scalar.lawful.lawful.field.ring (𝓔.scalars.elements l.x) (𝓔.scalars.elements l.y)
    (𝓔.element l.product) l.i
