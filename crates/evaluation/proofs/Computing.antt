-- For worked examples: one name for the definitions by which a key is evaluated. `unfolding evaluating` unfolds them all.
use Rattle.algebra.specs.Arithmetic.{sum_below}
use Rattle.multilinear.specs.Extension.{weighted}
use Rattle.multilinear.specs.Matrix.{moved}
use Rattle.multilinear.specs.Weight.{weight, bits}
use Rattle.arrays.specs.Dense.{summed, entries_matrix, matrices_below}
use Rattle.key.proofs.Computing.{checking}
use Rattle.judge.specs.Judged.{first_over, point_judged, place_judged, sheet_judged}
use Rattle.evaluation.specs.Evaluate.{concluded}
use Rattle.evaluation.specs.Sheet.{words_below}

unfoldable pub evaluating : Unit {0}
unfolding
    checking first_over point_judged place_judged sheet_judged weight bits weighted sum_below moved summed entries_matrix
    matrices_below concluded words_below
evaluating = tt
