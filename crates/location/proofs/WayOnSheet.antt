-- The way, turn by turn: each turn sets a coordinate by a comparison, and each comparison writes on the sheet.
use Prim.Native.Nat.{ℕ, ◌+◌, ◌-◌, ◌≤◌, ◌<◌}
use mathlib.Core.List.{List}
use mathlib.Core.Path.{◌≡◌, sym, ap, subst, ◌∙◌}
use native.Mathlib.Omega.{arith}
use lib.ListN.{length, take, drop, set}
use Rattle.refusal.proofs.Outcomes.{given-injective}
use Rattle.field.specs.Fp.{p}
use Rattle.field.specs.Scalars.{prime}
use Rattle.key.specs.declared.Counts.{Counts}
use Rattle.comparison.specs.AgreementBound.{is_same}
use Rattle.comparison.specs.Compare.{Answer, compared}
use Rattle.location.specs.Inner.{BothAccepted, PointOfTwo, Comparable, WrittenOn, WrittenOver}
use Rattle.location.specs.Locate.{same_at, bit_for, settled}
use Rattle.location.proofs.JoinedPoint.{all-behind}
use Rattle.location.proofs.OneOfTwoDiffers.{with-set}
use Rattle.location.proofs.SettledCoordinates.{bit_below}
use Rattle.location.proofs.SettlingTurns.{Settling, settling-begun, settling-turn, settling-done}
use Rattle.location.proofs.WrittenSheets.{answer-alike, after-written, written_none, written-again}

-- what an answer at a point says of a coordinate that is 0 there
pub bit-told : (first second : List ℕ) (n : ℕ) (point sheet : List ℕ) (told answer : Answer) (after : List ℕ) → told ≡ answer →
    answer ≡ (compared prime first second (take n point) (take (length point - n) (drop n point)) sheet).answer →
    after ≡ (compared prime first second (take n point) (take (length point - n) (drop n point)) sheet).sheet →
    (bit_for (is_same told) ≡ bit_for (same_at first second n sheet point)) ×
    (after ≡ (compared prime first second (take n point) (drop n point) sheet).sheet)
bit-told first second n point sheet told answer after is answered left = (
  ap (λ (a : Answer). bit_for (is_same a))
      (is ∙ answered ∙ ap (λ (columns : List ℕ). (compared prime first second (take n point) columns sheet).answer) (all-behind n point)),
  left ∙ ap (λ (columns : List ℕ). (compared prime first second (take n point) columns sheet).sheet) (all-behind n point),
)

-- the first i coordinates are set, the keys can be compared here, and the sheet is one that their comparisons have written on
pub record SettledSoFar (first second : List ℕ) (n : ℕ) (start lent point sheet : List ℕ) (i : ℕ) : Type 0 where
  pub one : Counts
  pub other : Counts
  pub both : BothAccepted first second one other (length sheet)
  pub is_point : PointOfTwo one other n point
  pub settling : Settling (same_at first second n lent) start point i
  pub written : WrittenOn one other lent sheet

pub way-begun : (first second : List ℕ) (n : ℕ) (start lent : List ℕ) → Comparable first second n start (length lent) →
    SettledSoFar first second n start lent start lent 0
way-begun first second n start lent comparable =
    record {
      one = comparable.one;
      other = comparable.other;
      both = comparable.both;
      is_point = comparable.is_point;
      settling = settling-begun (same_at first second n lent) start;
      written = written_none comparable.one comparable.other lent;
    }

module _ (first second : List ℕ) (n : ℕ) (start lent point sheet : List ℕ) (i : ℕ)
    (way : SettledSoFar first second n start lent point sheet i) where
  pub rows_inside : n ≤ length point
  rows_inside = omega (arith, way.is_point.count)

  pub way-turn : i < length start → (bit : ℕ) (after : List ℕ) → bit ≡ bit_for (same_at first second n sheet (set point i 0)) →
      after ≡ (compared prime first second (take n (set point i 0)) (drop n (set point i 0)) sheet).sheet →
      SettledSoFar first second n start lent (set (set point i 0) i bit) after (i + 1)
  way-turn l bit after is left =
      let zero-point = with-set way.one way.other n point i 0 way.is_point (omega arith) in
      let now-written = after-written first second way.one way.other n (set point i 0) zero-point sheet way.both in
      let asked : bit ≡ bit_for (same_at first second n lent (set point i 0)) =
      is ∙ ap (λ a. bit_for (is_same a))
      (answer-alike first second (take n (set point i 0)) (drop n (set point i 0)) sheet lent way.written.as_long) in
      let written = subst (WrittenOn way.one way.other sheet) (sym left) now-written in
      record {
        one = way.one;
        other = way.other;
        both = subst (BothAccepted first second way.one way.other) (sym written.as_long) way.both;
        is_point =
            with-set way.one way.other n (set point i 0) i bit zero-point
            (subst (λ (b : ℕ). b < p) (sym is) (bit_below p (omega arith) (same_at first second n sheet (set point i 0))));
        settling = settling-turn (same_at first second n lent) start point i way.settling l bit asked;
        written = written-again way.one way.other lent sheet after way.written written;
      }

  pub way-done : length start ≤ i →
      (point ≡ settled (same_at first second n lent) start) × WrittenOver first second lent sheet
  way-done l = (
    settling-done (same_at first second n lent) start point i way.settling l,
    λ one other accepts accepts'.
        subst (λ (c : Counts). WrittenOn c other lent sheet) (given-injective (sym way.both.accepts ∙ accepts))
        (subst (λ (c : Counts). WrittenOn way.one c lent sheet) (given-injective (sym way.both.accepts' ∙ accepts')) way.written),
  )
