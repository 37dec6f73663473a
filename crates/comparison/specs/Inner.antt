-- What the contracts of inner functions cite. No public promise rests on it.
use Rattle.std.specs.Prelude.{ℕ, ◌*◌, ◌≤◌, List, ◌≡◌, length}
use Rattle.refusal.specs.Outcome.{given}
use Rattle.field.specs.Scalars.{Scalars}
use Rattle.records.specs.declared.Shape.{Shape}
use Rattle.scalar.specs.Elements.{Elements}
use Rattle.weights.specs.Side.{prepared}
use Rattle.key.specs.Check.{checked_key}
use Rattle.key.specs.declared.Counts.{Counts}
use Rattle.judge.specs.Inner.{Coordinates}
use Rattle.evaluation.specs.Inner.{written_by}
use Rattle.evaluation.specs.Sheet.{places_of}
use Rattle.comparison.specs.Compare.{Answer, likeness}
use Rattle.comparison.specs.Filled.{filled_values, filled_factors}

-- a point of as many coordinates as a key of these counts has bits, or more, and a sheet of so many places with some for all its arrays
pub record Serves (𝓢 : Scalars) (own : Counts) (rows columns : List ℕ) (places : ℕ) : Type 0 where
  pub rows_given : Coordinates 𝓢 own.rows rows
  pub columns_given : Coordinates 𝓢 own.columns columns
  pub room : places_of 𝓢 * own.arrays ≤ places

-- an accepted key of these counts, with a point and a sheet of so many places for it
pub record Evaluable (𝓢 : Scalars) (key : List ℕ) (own : Counts) (rows columns : List ℕ) (places : ℕ) : Type 0 where
  pub accepted : checked_key key ≡ given own
  pub serves : Serves 𝓢 own rows columns places

-- what the coordinates weigh that a key of these counts doesn't use, by the tables of two sides of as many coordinates as `most` has bits:
-- as a call at position 0 does
abbrev pub unused_by : {E : Type 0} (𝓔 : Elements E) → Counts → Shape → List E → List E → 𝓔.scalars.arithmetic.Carrier
unused_by 𝓔 own most rowwise columnwise =
    𝓔.scalars.arithmetic.mul ((prepared 𝓔 rowwise).factor most.rows own.rows 0)
    ((prepared 𝓔 columnwise).factor most.columns own.columns 0)

-- the factors of such a key at a point
abbrev pub factors_at : Scalars → List ℕ → Counts → List ℕ → List ℕ → ℕ
factors_at 𝓢 key own rows columns = filled_factors key own (length (𝓢.elements rows)) (length (𝓢.elements columns))

-- are the numbers of two keys of these counts the same at a point?
abbrev pub likeness_at : Scalars → List ℕ → Counts → List ℕ → Counts → List ℕ → List ℕ → Answer
likeness_at 𝓢 first one second other rows columns =
    likeness 𝓢 (filled_values 𝓢 first one rows columns) (filled_values 𝓢 second other rows columns)

-- a sheet on which the values of the first key's arrays at a point are written, and then the second's
abbrev pub both_written : Scalars → List ℕ → Counts → List ℕ → Counts → List ℕ → List ℕ → List ℕ → List ℕ
both_written 𝓢 first one second other rows columns sheet =
    written_by 𝓢 second rows columns other.arrays (written_by 𝓢 first rows columns one.arrays sheet)
