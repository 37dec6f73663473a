-- Worked examples over the field of p²: a small key evaluated at a point of two parts, and the places of refusals.
use Prim.Native.Nat.{◌-◌}
use mathlib.Core.List.{[], ◌∷◌, map}
use mathlib.Core.Path.{◌≡◌, refl}
use lib.ListN.{replicate}
use Rattle.refusal.specs.Outcome.{refused}
use Rattle.field.specs.Fp.{p}
use Rattle.quadratic.specs.Quadratic.{two_by_two, quadratic}
use Rattle.records.proofs.Examples.{key}
use Rattle.evaluation.specs.Evaluate.{Evaluation, evaluated}
use Rattle.evaluation.proofs.Computing.{evaluating}

-- the same key at the row coordinate 3 + 2i and the column coordinate 4 + 5i: 5·(4 + 5i), and 2·(1 - (3 + 2i)) times that
two-parts-sheet : (evaluated quadratic key (3 ∷ 2 ∷ []) (4 ∷ 5 ∷ []) (replicate 13 9)).sheet ≡
    20 ∷ 25 ∷ 28 ∷ 35 ∷ 0 ∷ 0 ∷ 20 ∷ (p - 180) ∷ 28 ∷ (p - 252) ∷ 0 ∷ 0 ∷ 9 ∷ []
unfolding evaluating two_by_two
two-parts-sheet = refl

-- the place of 21 and 22 is the number of numbers, that of 23 the index among numbers; 31 asks for six places an array
two-parts-refused :
    map (λ (e : Evaluation quadratic). e.answer)
    (evaluated quadratic key (3 ∷ []) [] [] ∷
    evaluated quadratic key (3 ∷ 2 ∷ []) (p ∷ []) [] ∷
    evaluated quadratic key (3 ∷ p ∷ []) (4 ∷ p ∷ []) [] ∷
    evaluated quadratic key (3 ∷ 2 ∷ []) (4 ∷ p ∷ []) [] ∷
    evaluated quadratic key (3 ∷ 2 ∷ []) (4 ∷ 5 ∷ []) (replicate 11 9) ∷ [])
    ≡ refused 21 1 ∷ refused 22 1 ∷ refused 23 1 ∷ refused 23 3 ∷ refused 31 12 ∷ []
unfolding evaluating
two-parts-refused = refl
