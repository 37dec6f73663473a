-- Two keys compared at several points, which stands behind the likelihood of "same" at all of them. Over a field of q elements, with m
-- coordinates to a point: "of the (q^m)^s lists of s points, compare says "same" at all s of them on no more than (q^m - (q-1)^m)^s, where
-- the keys differ in a cell". Its parts stand in quotation marks beside the definitions, where s is `count`.
use Rattle.std.specs.Prelude.{ℕ, ◌+◌, ◌-◌, ◌*◌, ◌^◌, ◌≤◌, ◌<◌, max, Bool, true, List, ◌≡◌, length}
use Rattle.algebra.specs.Groups.{group_at, all_below}
use Rattle.algebra.specs.Points.{count_points, Below}
use Rattle.field.specs.Fp.{p}
use Rattle.field.specs.Scalars.{Scalars, size_of}
use Rattle.comparison.specs.AgreementBound.{AcceptedKey, LongEnough, answer_at, is_same, DifferInCell}

-- "lists of s points": one list of numbers, each below p, in which s points of m coordinates lie one behind the other
pub record Points (𝓢 : Scalars) (m count : ℕ) (points : List ℕ) : Type 0 where
  pub numbers : length points ≡ 𝓢.width * m * count
  pub below : Below p points

-- the numbers of point i, from 0 on
abbrev pub point_at : Scalars → ℕ → List ℕ → ℕ → List ℕ
point_at 𝓢 m points i = group_at (𝓢.width * m) points i

-- The sheet that is lent to comparison i of a list of points. It is long enough, and may depend on all the points and on i: so it may be
-- one that the comparisons before have written (`handed-on` in proofs/SheetHandedOn.antt).
pub record SheetsInTurn (𝓢 : Scalars) (m count : ℕ) (first second : List ℕ) : Type 0 where
  pub lent : List ℕ → ℕ → List ℕ
  pub long_enough : (points : List ℕ) → Points 𝓢 m count points → (i : ℕ) → i < count → LongEnough 𝓢 first second (lent points i)

-- "compare says "same" at all s of them": does it at each of the s points, the first N coordinates of each being the rows'?
abbrev pub same_at_each : Scalars → ℕ → ℕ → ℕ → List ℕ → List ℕ → (List ℕ → ℕ → List ℕ) → List ℕ → Bool
same_at_each 𝓢 N N' count first second lent points =
    all_below count (λ i. is_same (answer_at 𝓢 N first second (point_at 𝓢 (N + N') points i) (lent points i)))

pub record SeveralPoints (𝓢 : Scalars) (N N' count : ℕ) (first second : List ℕ) : Type 0 where
  -- "of the (q^m)^s lists of s points,": so many there are
  pub lists : count_points p (𝓢.width * (N + N') * count) (λ points. true) ≡ (size_of 𝓢 ^ (N + N')) ^ count
  -- "compare says "same" at all s of them on no more than (q^m - (q-1)^m)^s, where the keys differ in a cell"
  pub differ : (sheets : SheetsInTurn 𝓢 (N + N') count first second) → DifferInCell N N' first second →
      count_points p (𝓢.width * (N + N') * count) (same_at_each 𝓢 N N' count first second sheets.lent)
      ≤ (size_of 𝓢 ^ (N + N') - (size_of 𝓢 - 1) ^ (N + N')) ^ count
  -- and where they differ in no cell, at all s points of every list
  pub equal : (sheets : SheetsInTurn 𝓢 (N + N') count first second) → (DifferInCell N N' first second → ⊥) →
      (points : List ℕ) → Points 𝓢 (N + N') count points → same_at_each 𝓢 N N' count first second sheets.lent points ≡ true

-- The claim about two keys and any number of points. Nothing is assumed but that both are accepted; N and N' are their larger bits. It is
-- proved in proofs/SeveralPoints.antt.
abbrev pub Several : Scalars → List ℕ → List ℕ → Type 0
Several 𝓢 first second =
    (n n' k k' count : ℕ) → AcceptedKey n n' first → AcceptedKey k k' second → SeveralPoints 𝓢 (max n k) (max n' k') count first second
