-- A point of the field of p as a point of a larger field (E2: "Points with every v zero").
use Rattle.std.specs.Prelude.{ℕ}
use mathlib.Core.List.{List, flat_map}
use Rattle.field.specs.Scalars.{Scalars, prime}
use Rattle.arrays.specs.Arrays.{Values, value_of, values_by}
use Rattle.evaluation.specs.Evaluate.{ValuesOf, Counted}

-- the numbers of the same coordinates: where elements have two numbers, each is followed by a 0
abbrev pub same_numbers_in : Scalars → List ℕ → List ℕ
same_numbers_in 𝓢 numbers = flat_map (λ x. 𝓢.numbers (𝓢.embed x)) numbers

-- the same values: u, with v zero
abbrev pub same_values_in : (𝓢 : Scalars) → Values → ValuesOf 𝓢
same_values_in 𝓢 values = values_by (λ part. 𝓢.embed (value_of part values))

-- the same values, and as many factors
abbrev pub same_counted_in : (𝓢 : Scalars) → Counted prime → Counted 𝓢
same_counted_in 𝓢 counted = record { values = same_values_in 𝓢 counted.values; factors = counted.factors }
