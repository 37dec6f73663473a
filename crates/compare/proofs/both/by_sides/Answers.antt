-- `compare::both::by_sides` meets its contract: the two keys on sides that are prepared once.
use Prim.Native.Nat.{◌+◌}
use mathlib.Core.Path.{refl, ap, ap₂, ◌∙◌}
use native.Mathlib.Omega.{arith}
use Rattle.evaluation.specs.Sheet.{laid}
use Rattle.comparison.specs.Compare.{likeness}
use Rattle.comparison.proofs.FilledByTables.{factors-few, still-evaluable}
use Rattle.compare.proofs.both.by_sides.Goals as goal

pub triple-other-requires-clause-evaluable : goal.triple-other-requires-clause-evaluable
triple-other-requires-clause-evaluable g c =
    still-evaluable _ _ _ _ _ _ c.requires.evaluable_2 _ _ _ _ refl c.triple-one.ensures.sheet

pub overflow_add-result : goal.overflow_add-result
overflow_add-result g c =
    omega (
      arith,
      c.triple-one.ensures.factors,
      c.triple-other.ensures.factors,
      factors-few _ _ _ _ _ _ c.requires.evaluable,
      factors-few _ _ _ _ _ _ c.requires.evaluable_2,
    )

pub returns : goal.returns
returns g c =
    let other = c.triple-other.ensures in
    let one = c.triple-one.ensures in
    record {
      answer = c.likeness.ensures ∙ ap₂ (likeness g.S.Scalar.elements.scalars) one.values other.values;
      factors = ap₂ ◌+◌ one.factors other.factors;
      sheet = other.sheet ∙ ap (laid 0 _ _) one.sheet;
    }
