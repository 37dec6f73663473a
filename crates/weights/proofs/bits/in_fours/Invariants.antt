use Prim.Native.Nat.{◌/◌, ◌%◌}
use mathlib.Core.Path.{◌≡◌}
use lib.ListN.{length}
use Rattle.multilinear.specs.Eq.{bitwise}
use Rattle.weights.specs.Side.{pairs}
use Rattle.weights.proofs.WeightProduct.{Weighing}
use Rattle.weights.proofs.bits.in_fours.Given as goal

abbrev pub invariant-loop-left : goal.invariant-loop-left
invariant-loop-left g l =
    let 𝓐 = g.S.Scalar.elements.scalars.arithmetic in
    Weighing 𝓐 (pairs g.S.Scalar.elements l.left)
    (𝓐.mul (g.S.Scalar.product l.fn.begun) (bitwise 𝓐 (pairs g.S.Scalar.elements l.factors) (length l.factors / 2) 0 l.fn.a))
    (length l.left / 2) (g.S.Scalar.product l.product) l.rest 0
    × (length l.left % 8 ≡ 0)

abbrev pub decreases-loop-left : goal.decreases-loop-left
decreases-loop-left g l = length l.left
