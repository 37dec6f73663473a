-- Two keys compared at several points, from the agreement bound at one: at each point compare answers what it answers there on any other
-- long enough sheet, so the comparisons are one test of each point, and the counts multiply.
use Prim.Native.Nat.{ℕ, ◌+◌, ◌*◌, ◌^◌, ◌<◌, max}
use mathlib.Core.Bool.{Bool, true}
use mathlib.Core.List.{List}
use mathlib.Core.Path.{◌≡◌, refl, sym, ap, ◌∙◌}
use native.Mathlib.Nat.{mul-add, pow-le-pow_left}
use native.Mathlib.Omega.{arith}
use lib.ListN.{length, replicate, length-replicate}
use Rattle.algebra.specs.Groups.{all_below}
use Rattle.algebra.specs.Points.{count_points}
use Rattle.algebra.proofs.DigitGroups.{count-grouped}
use Rattle.algebra.proofs.PointCounts.{count_same, count-all}
use Rattle.algebra.proofs.PointsInTurn.{count-each, all_same, all_true, group-length, group-below}
use Rattle.field.specs.Fp.{p}
use Rattle.field.specs.Scalars.{Scalars, size_of, Lawful}
use Rattle.key.specs.KeyArrays.{key_arrays}
use Rattle.evaluation.specs.Sheet.{places_of}
use Rattle.comparison.specs.AgreementBound.{Point, LongEnough, Sheets, answer_at, is_same, AgreementBound}
use Rattle.comparison.specs.SeveralPoints.{Points, point_at, SheetsInTurn, same_at_each, SeveralPoints, Several}
use Rattle.comparison.proofs.Agreement.{agreement}

module _ (𝓢 : Scalars) (N N' count : ℕ) (first second : List ℕ) (claim : AgreementBound 𝓢 N N' first second) where
  abbrev m : ℕ
  m = N + N'

  point-of : (points : List ℕ) → Points 𝓢 m count points → (i : ℕ) → i < count → Point 𝓢 m (point_at 𝓢 m points i)
  point-of points are i l =
      record {
        numbers = group-length (𝓢.width * m) count points are.numbers i l;
        below = group-below p (𝓢.width * m) points are.below i;
      }

  -- one sheet that is long enough for both keys
  enough : List ℕ
  enough = replicate (places_of 𝓢 * (length (key_arrays first) + length (key_arrays second))) 0

  enough-long : LongEnough 𝓢 first second enough
  unfolding enough
  enough-long =
      let places = length-replicate {A = ℕ} (places_of 𝓢 * (length (key_arrays first) + length (key_arrays second))) 0 in
      let parts = mul-add (places_of 𝓢) (length (key_arrays first)) (length (key_arrays second)) in
      record { for_first = omega (arith, places, parts); for_second = omega (arith, places, parts) }

  abbrev one-sheet : Sheets 𝓢 m first second
  one-sheet = record { lent = λ point. enough; long_enough = λ point at. enough-long }

  -- does compare say "same" at this point, on that sheet?
  abbrev same_at : List ℕ → Bool
  same_at point = is_same (answer_at 𝓢 N first second point enough)

  same-on-it : (sheets : SheetsInTurn 𝓢 m count first second) (points : List ℕ) → Points 𝓢 m count points →
      same_at_each 𝓢 N N' count first second sheets.lent points ≡ all_below count (λ i. same_at (point_at 𝓢 m points i))
  same-on-it sheets points are =
      all_same count _ _ (λ i l.
      ap is_same (claim.alike (point_at 𝓢 m points i) (point-of points are i l) (sheets.lent points i) enough
      (sheets.long_enough points are i l) enough-long))

  -- the comparisons are one test of each of s points
  same-counted : (sheets : SheetsInTurn 𝓢 m count first second) →
      count_points p (𝓢.width * m * count) (same_at_each 𝓢 N N' count first second sheets.lent) ≡ count_points p (𝓢.width * m) same_at ^ count
  same-counted sheets =
      count_same p (𝓢.width * m * count) _ _ (λ points e b. same-on-it sheets points (record { numbers = e; below = b }))
      ∙ count-each p (𝓢.width * m) count same_at

  several-points : SeveralPoints 𝓢 N N' count first second
  unfolding is_same
  several-points =
      record {
        lists =
            count_same p (𝓢.width * m * count) _ _ (λ points e b. sym (all_true count (λ i. true) (λ i l. refl)))
            ∙ count-each p (𝓢.width * m) count (λ point. true)
            ∙ ap (λ (c : ℕ). c ^ count) (count-grouped p 𝓢.width m (λ point. true) ∙ count-all (size_of 𝓢) m);
        differ = λ sheets cell. rw (same-counted sheets) (pow-le-pow_left (claim.differ one-sheet cell) count);
        equal = λ sheets none points are.
            same-on-it sheets points are
            ∙ all_true count _ (λ i l. ap is_same (claim.equal one-sheet none (point_at 𝓢 m points i) (point-of points are i l)));
      }

pub several : (𝓢 : Scalars) → Lawful 𝓢 → (first second : List ℕ) → Several 𝓢 first second
several 𝓢 𝓛 first second n n' k k' count is is' =
    several-points 𝓢 (max n k) (max n' k') count first second (agreement 𝓢 𝓛 first second n n' k k' is is')
