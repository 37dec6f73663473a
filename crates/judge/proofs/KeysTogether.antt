-- Two keys that are judged together, by their counts: what is known where nothing is refused, and when nothing is. The counts of an
-- accepted key are few enough for it.
use Prim.Native.Nat.{ℕ, ◌*◌, ◌≤◌, ◌<◌}
use mathlib.Core.List.{List}
use mathlib.Core.Path.{◌≡◌, refl, sym, ap, subst, ◌∙◌}
use native.Mathlib.Omega.{arith}
use Rattle.refusal.specs.Outcome.{given, refuse}
use Rattle.refusal.specs.declared.Reason.{Reason}
use Rattle.refusal.proofs.Outcomes.{given-injective}
use Rattle.key.specs.Check.{checked_key}
use Rattle.key.specs.declared.Counts.{Counts}
use Rattle.key.proofs.Acceptance.{acceptance}
use Rattle.key.proofs.CountBounds.{cells-few, calls-few}
use Rattle.judge.specs.Inner.{FewRecords}
use Rattle.judge.specs.Judged.{point_judged, together, pair_judged}
use Rattle.judge.proofs.JudgementCases.{sheet-short, sheet-enough}
use Rattle.judge.proofs.JudgementsInOrder.{sheet-left, given-known}
use Rattle.judge.proofs.NothingRefused.{PointOf, point-of, point-gives}

pub few-records : (key : List ℕ) (counts : Counts) → checked_key key ≡ given counts → FewRecords counts
few-records key counts accepted =
    let known = acceptance key counts accepted in (
      omega (arith, known.at_most_1024, ap (λ (c : Counts). c.arrays) known.counted),
      cells-few key counts accepted,
      calls-few key counts accepted,
    )

module _ (width : ℕ) (rows columns : List ℕ) (one other : Counts) where
  -- a point for both keys together
  abbrev pub PointOfBoth : Type 0
  PointOfBoth = PointOf width (together one other).rows (together one other).columns rows columns

  pub pair-known : (places : ℕ) (both : Counts) → pair_judged width rows columns places one other ≡ given both →
      (both ≡ together one other) × PointOfBoth × (3 * width * (together one other).arrays ≤ places)
  pair-known places both e =
      let (same, point, room) =
      given-known (given (together one other)) (point_judged width rows columns) _ (point-gives width rows columns) (3 * width) places both e in
      let are : both ≡ together one other = sym (given-injective same) in (
        are,
        subst (λ (c : Counts). PointOf width c.rows c.columns rows columns) are point,
        subst (λ (c : Counts). 3 * width * c.arrays ≤ places) are room,
      )

  module _ (point : PointOfBoth) (places : ℕ) where
    pub pair-given : 3 * width * (together one other).arrays ≤ places →
        pair_judged width rows columns places one other ≡ given (together one other)
    pair-given room =
        sheet-left (given (together one other)) (point_judged width rows columns) (3 * width) places (together one other) refl
        (point-of width rows columns (together one other) point)
        ∙ sheet-enough (3 * width) places (together one other) room

    pub pair-short : places < 3 * width * (together one other).arrays →
        pair_judged width rows columns places one other ≡ refuse Reason.SheetTooShort (3 * width * (together one other).arrays)
    pair-short short =
        sheet-left (given (together one other)) (point_judged width rows columns) (3 * width) places (together one other) refl
        (point-of width rows columns (together one other) point)
        ∙ sheet-short (3 * width) places (together one other) short
