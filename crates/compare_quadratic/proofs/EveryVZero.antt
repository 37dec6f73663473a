-- At a point with every v zero compare answers what it answers over the field of p (02, E2).
use Prim.Native.Nat.{ℕ, max}
use mathlib.Core.List.{List}
use mathlib.Core.Path.{◌≡◌, sym, ap₂, ◌∙◌}
use native.Mathlib.Nat.{one-mul}
use lib.ListN.{length}
use Rattle.algebra.specs.Points.{Below}
use Rattle.field.specs.Fp.{p}
use Rattle.field.specs.Scalars.{prime}
use Rattle.quadratic.specs.Quadratic.{quadratic}
use Rattle.quadratic.proofs.QuadraticLawful.{quadratic-lawful}
use Rattle.evaluation.proofs.EvaluatePromises.{arrays-counted}
use Rattle.comparison.specs.AgreementBound.{AcceptedKey, LongEnough}
use Rattle.comparison.specs.Compare.{compared}
use Rattle.comparison.proofs.SameOverLargerField.{same-comparison}
use Rattle.evaluate_quadratic.proofs.EveryVZero.{with_zeros}

pub old-comparison : (n n' k k' : ℕ) (first second rows columns sheet lent : List ℕ) → AcceptedKey n n' first → AcceptedKey k k' second →
    length rows ≡ max n k → length columns ≡ max n' k' → Below p rows → Below p columns →
    LongEnough prime first second sheet → LongEnough quadratic first second lent →
    (compared quadratic first second (with_zeros rows) (with_zeros columns) lent).answer
    ≡ (compared prime first second rows columns sheet).answer
old-comparison n n' k k' first second rows columns sheet lent is is' rows_are columns-are below below' long long' =
    let counted = arrays-counted first is.counts is.accepted in
    let counted' = arrays-counted second is'.counts is'.accepted in
    same-comparison quadratic quadratic-lawful first second rows columns is.counts is'.counts is.accepted is'.accepted
    (record {
      rows_are = rows_are ∙ sym (ap₂ max is.row_bits is'.row_bits) ∙ sym (one-mul (max is.counts.rows is'.counts.rows));
      columns-are =
          columns-are ∙ sym (ap₂ max is.column_bits is'.column_bits)
          ∙ sym (one-mul (max is.counts.columns is'.counts.columns));
      rows-below = below;
      columns-below = below';
    })
    sheet lent (rw counted long.for_first) (rw counted' long.for_second) (rw counted long'.for_first)
    (rw counted' long'.for_second)
