use Prim.Native.Nat.{◌+◌, ◌-◌, ◌*◌, ◌≤◌}
use Rattle.multilinear.specs.Eq.{bitwise}
use Rattle.weights.specs.Side.{pairs}
use Rattle.weights.proofs.WeightProduct.{Weighing}
use Rattle.weights.proofs.limbs.whole_limbs.Given as goal

abbrev pub invariant-loop-turn : goal.invariant-loop-turn
invariant-loop-turn g l =
    let 𝓔 = g.S.Scalar.elements in
    let 𝓐 = 𝓔.scalars.arithmetic in
    Weighing 𝓐 (pairs 𝓔 l.table)
    (𝓐.mul (𝓔.element l.fn.begun) (bitwise 𝓐 (pairs 𝓔 l.table) (5 * l.to - 5 * l.from) (5 * l.from) l.fn.a)) (5 * l.to)
    (g.S.Scalar.product l.product) l.rest (5 * (l.from + l.turn))
    × (l.turn ≤ 5) × g.S.Scalar.at_turn l.turn l.product
