use Prim.Native.Nat.{◌-◌}
use Rattle.multilinear.specs.Eq.{bitwise}
use Rattle.weights.specs.Side.{pairs}
use Rattle.weights.proofs.WeightProduct.{Weighing}
use Rattle.weights.proofs.bits.singly.Given as goal

abbrev pub invariant-loop-i : goal.invariant-loop-i
invariant-loop-i g l =
    let 𝓐 = g.S.Scalar.elements.scalars.arithmetic in
    Weighing 𝓐 (pairs g.S.Scalar.elements l.table)
    (𝓐.mul (g.S.Scalar.product l.fn.begun) (bitwise 𝓐 (pairs g.S.Scalar.elements l.table) (l.to - l.from) l.from l.fn.a)) l.to
    (g.S.Scalar.product l.product) l.rest l.i
