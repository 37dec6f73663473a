-- What is known of two accepted keys, a point and a sheet that are judged together, where nothing is refused; and when nothing is.
use Prim.Native.Nat.{ℕ, ◌*◌, ◌≤◌}
use mathlib.Core.List.{List}
use mathlib.Core.Path.{◌≡◌, refl}
use native.Mathlib.Omega.{arith}
use Rattle.refusal.specs.Outcome.{given}
use Rattle.field.specs.Scalars.{Scalars, Lawful}
use Rattle.key.specs.Check.{checked_key}
use Rattle.key.specs.declared.Counts.{Counts}
use Rattle.key.proofs.Acceptance.{acceptance}
use Rattle.judge.specs.Judged.{together, pair_judged}
use Rattle.judge.proofs.KeysTogether.{PointOfBoth, pair-known, pair-given}
use Rattle.judge.proofs.NothingRefused.{coordinates-of}
use Rattle.evaluation.specs.Sheet.{places_of}
use Rattle.comparison.specs.Inner.{Serves}
use Rattle.comparison.proofs.EnoughForBoth.{fewer, most}

module _ (𝓢 : Scalars) (𝓛 : Lawful 𝓢) (first second : List ℕ) (one other : Counts) (accepts : checked_key first ≡ given one)
    (accepts' : checked_key second ≡ given other) (rows columns : List ℕ) where
  -- a point for both serves each of them, on a sheet with places for its arrays
  module _ (point : PointOfBoth 𝓢.width rows columns one other) (places : ℕ) where
    each-serves : (own : Counts) → own.rows ≤ (together one other).rows → own.columns ≤ (together one other).columns →
        places_of 𝓢 * own.arrays ≤ places → Serves 𝓢 own rows columns places
    each-serves own fits fits' room =
        let well = (acceptance first one accepts).well_formed in
        let well' = (acceptance second other accepts').well_formed in
        record {
          rows_given =
              coordinates-of 𝓢 𝓛 own.rows (together one other).rows rows fits
              (omega (arith, well.rows_at_most_30, well'.rows_at_most_30)) point.rows_are point.rows-below;
          columns_given =
              coordinates-of 𝓢 𝓛 own.columns (together one other).columns columns fits'
              (omega (arith, well.columns_at_most_30, well'.columns_at_most_30)) point.columns-are point.columns-below;
          room = room;
        }

    pub serves-one : places_of 𝓢 * one.arrays ≤ places → Serves 𝓢 one rows columns places
    serves-one = each-serves one (omega arith) (omega arith)

    pub serves-other : places_of 𝓢 * other.arrays ≤ places → Serves 𝓢 other rows columns places
    serves-other = each-serves other (omega arith) (omega arith)

    -- where there are places for the arrays of both, nothing is refused
    pub both-given : places_of 𝓢 * one.arrays ≤ places → places_of 𝓢 * other.arrays ≤ places →
        pair_judged 𝓢.width rows columns places one other ≡ given (together one other)
    both-given room room' =
        pair-given 𝓢.width rows columns one other point places
        (most (places_of 𝓢) one.arrays other.arrays _ places refl room room')

  -- where nothing is refused, the point and the sheet serve both keys
  pub record BothServed (places : ℕ) (both : Counts) : Type 0 where
    pub are : both ≡ together one other
    pub point : PointOfBoth 𝓢.width rows columns one other
    pub first-serves : Serves 𝓢 one rows columns places
    pub second-serves : Serves 𝓢 other rows columns places

  pub both-served : (places : ℕ) (both : Counts) → pair_judged 𝓢.width rows columns places one other ≡ given both →
      BothServed places both
  both-served places both e =
      let (are, point, room) = pair-known 𝓢.width rows columns one other places both e in
      record {
        are = are;
        point = point;
        first-serves = serves-one point places (fewer (places_of 𝓢) _ _ places (omega arith) room);
        second-serves = serves-other point places (fewer (places_of 𝓢) _ _ places (omega arith) room);
      }
