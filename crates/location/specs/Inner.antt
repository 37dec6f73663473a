-- What the contracts of inner functions cite. No public promise rests on it.
use Rattle.std.specs.Prelude.{ℕ, ◌+◌, ◌*◌, ◌≤◌, cond, List, ◌≡◌, length, get_or}
use Rattle.refusal.specs.Outcome.{Outcome, given, refused}
use Rattle.algebra.specs.Points.{Below}
use Rattle.field.specs.Fp.{p}
use Rattle.field.specs.Scalars.{prime}
use Rattle.arrays.specs.Arrays.{Values}
use Rattle.rules.specs.Rules.{outside}
use Rattle.key.specs.Check.{checked_key}
use Rattle.key.specs.declared.Counts.{Counts}
use Rattle.judge.specs.Judged.{together, pair_judged}
use Rattle.evaluation.specs.Evaluate.{Counted}
use Rattle.evaluation.specs.Sheet.{places_of}

-- accepted keys of these counts, with a sheet of so many places for each
pub record BothAccepted (first second : List ℕ) (one other : Counts) (places : ℕ) : Type 0 where
  pub accepts : checked_key first ≡ given one
  pub accepts' : checked_key second ≡ given other
  pub room : places_of prime * one.arrays ≤ places
  pub room' : places_of prime * other.arrays ≤ places

-- a point for both, whose first n coordinates are the rows'
pub record PointOfTwo (one other : Counts) (n : ℕ) (point : List ℕ) : Type 0 where
  pub rows_are : n ≡ (together one other).rows
  pub count : length point ≡ n + (together one other).columns
  pub below : Below p point

-- a sheet that comparisons of keys of these counts have written on: behind the places of both it is as it was
pub record WrittenOn (one other : Counts) (lent sheet : List ℕ) : Type 0 where
  pub as_long : length sheet ≡ length lent
  pub behind : (k : ℕ) → places_of prime * one.arrays ≤ k → places_of prime * other.arrays ≤ k → get_or sheet k 0 ≡ get_or lent k 0

-- two keys that can be compared at such a point on such a sheet
pub record Comparable (first second : List ℕ) (n : ℕ) (point : List ℕ) (places : ℕ) : Type 0 where
  pub one : Counts
  pub other : Counts
  pub both : BothAccepted first second one other places
  pub is_point : PointOfTwo one other n point

-- a sheet that such comparisons have written on, whatever the counts of the keys are
abbrev pub WrittenOver : List ℕ → List ℕ → List ℕ → List ℕ → Type 0
WrittenOver first second lent sheet =
    (one other : Counts) → checked_key first ≡ given one → checked_key second ≡ given other → WrittenOn one other lent sheet

-- two keys that can be compared on such a sheet at the bits of a row and of a column
pub record Readable (first second rows columns : List ℕ) (places : ℕ) : Type 0 where
  pub one : Counts
  pub other : Counts
  pub accepts : checked_key first ≡ given one
  pub accepts' : checked_key second ≡ given other
  pub admitted : pair_judged 1 rows columns places one other ≡ given (together one other)
  pub are_bits : Below 2 rows
  pub are_bits' : Below 2 columns

abbrev pub zeros : Values
zeros = record { a = 0; b = 0; c = 0 }

abbrev pub values_of : Outcome (Counted prime) → Values
values_of (given counted) = counted.values
values_of (refused number place) = zeros

-- what a key of these counts holds at a row and a column, by what evaluate answers at their bits: zeros beyond its shape
unfoldable pub held_at : Counts → ℕ → ℕ → Outcome (Counted prime) → Values
held_at own row column answer = cond (outside own.rows row) zeros (cond (outside own.columns column) zeros (values_of answer))
