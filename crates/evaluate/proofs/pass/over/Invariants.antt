use Rattle.weights.specs.Side.{prepared}
use Rattle.key.specs.KeyArrays.{key_arrays}
use Rattle.evaluation.proofs.FactorsSoFar.{SoFar}
use Rattle.evaluation.proofs.SheetDuringPass.{Passing}
use Rattle.evaluate.proofs.pass.over.Given as goal

abbrev pub invariant-loop-i : goal.invariant-loop-i
invariant-loop-i g l =
    let 𝓔 = g.S.Scalar.elements in
    Passing 𝓔.scalars g.S.Scalar.lawful.lawful (key_arrays l.key.bytes.now) (prepared 𝓔 l.tables.rowwise.now)
    (prepared 𝓔 l.tables.columnwise.now) l.initial.sheet l.i l.sheet ×
    SoFar l.key.bytes.now l.factors l.i
