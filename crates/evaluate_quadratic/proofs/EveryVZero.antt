-- At a point with every v zero evaluate answers what it answers over the field of p, as u, with v zero (02, E2), and as many factors.
use Prim.Native.Nat.{ℕ, ◌*◌, ◌≤◌}
use mathlib.Core.List.{List, [], ◌∷◌, flat_map}
use mathlib.Core.Path.{◌≡◌}
use lib.ListN.{length}
use Rattle.refusal.specs.Outcome.{given}
use Rattle.field.specs.Scalars.{prime}
use Rattle.quadratic.specs.Quadratic.{quadratic}
use Rattle.quadratic.proofs.QuadraticLawful.{quadratic-lawful}
use Rattle.key.specs.KeyArrays.{key_arrays}
use Rattle.evaluation.specs.Evaluate.{Counted, values_at, evaluated}
use Rattle.evaluation.specs.Sheet.{laid}
use Rattle.evaluation.proofs.SameOverLargerField.{same_answer, same-sheet}

-- numbers of the field of p as coordinates: each is u, and v is 0
abbrev pub with_zeros : List ℕ → List ℕ
with_zeros numbers = flat_map (λ u. u ∷ 0 ∷ []) numbers

module _ (key rows columns sheet : List ℕ) (counted : Counted prime)
    (answer : (evaluated prime key rows columns sheet).answer ≡ given counted) (lent : List ℕ) (room : 6 * length (key_arrays key) ≤ length lent) where
  pub old-answer : (evaluated quadratic key (with_zeros rows) (with_zeros columns) lent).answer
      ≡ given (record {
        values = record {
          a = record { u = counted.values.a; v = 0 };
          b = record { u = counted.values.b; v = 0 };
          c = record { u = counted.values.c; v = 0 };
        };
        factors = counted.factors;
      })
  old-answer = same_answer quadratic quadratic-lawful key rows columns sheet counted answer lent room

  -- on the sheet each array's three numbers, each followed by a 0
  pub old-sheet : (evaluated quadratic key (with_zeros rows) (with_zeros columns) lent).sheet
      ≡ laid 0 (λ i. let old = values_at prime (key_arrays key) rows columns i in old.a ∷ 0 ∷ old.b ∷ 0 ∷ old.c ∷ 0 ∷ [])
      (length (key_arrays key)) lent
  old-sheet = same-sheet quadratic quadratic-lawful key rows columns sheet counted answer lent room
