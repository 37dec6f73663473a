-- Keys that are found different at a point are accepted, the point is one for both, and the sheet has places for each.
use Prim.Native.Nat.{ℕ, ◌+◌}
use mathlib.Core.List.{List, ◌++◌}
use mathlib.Core.Path.{◌≡◌, sym, ap, ◌∙◌}
use native.Mathlib.Nat.{one-mul}
use native.Mathlib.Omega.{arith}
use lib.ListN.{length, length-append}
use Rattle.algebra.proofs.CoordinatesBelow.{below-append}
use Rattle.field.specs.Fp.{p}
use Rattle.field.specs.Scalars.{prime}
use Rattle.judge.specs.Judged.{together}
use Rattle.judge.proofs.KeysTogether.{pair-known}
use Rattle.comparison.specs.Compare.{different, compared}
use Rattle.comparison.proofs.Answers.{refused-not-different}
use Rattle.comparison.proofs.CompareCases.{not-refused}
use Rattle.comparison.proofs.EnoughForBoth.{fewer}
use Rattle.location.specs.Inner.{Comparable}

pub found-different : (first second rows columns sheet : List ℕ) → (compared prime first second rows columns sheet).answer ≡ different →
    Comparable first second (length rows) (rows ++ columns) (length sheet)
found-different first second rows columns sheet differ =
    let known = not-refused prime first second rows columns sheet
    (λ which number place e. refused-not-different which number place (sym e ∙ differ)) in
    let (are, point, room) = pair-known 1 rows columns known.one known.other (length sheet) known.both known.admits in
    record {
      one = known.one;
      other = known.other;
      both = record {
        accepts = known.accepts;
        accepts' = known.accepts';
        room = fewer 3 _ _ (length sheet) (omega arith) room;
        room' = fewer 3 _ _ (length sheet) (omega arith) room;
      };
      is_point = record {
        rows_are = point.rows_are ∙ one-mul (together known.one known.other).rows;
        count = length-append rows columns ∙ ap (λ (k : ℕ). length rows + k) (point.columns-are ∙ one-mul
            (together known.one known.other).columns);
        below = below-append p rows columns point.rows-below point.columns-below;
      };
    }
