-- What the contracts of inner functions cite. No public promise rests on it.
use Rattle.std.specs.Prelude.{ℕ, suc, ◌+◌, ◌-◌, ◌*◌, ◌^◌, ◌≤◌, ◌<◌, List, ◌≡◌, length}
use Rattle.refusal.specs.Outcome.{given}
use Rattle.algebra.specs.Points.{Below}
use Rattle.field.specs.Fp.{p}
use Rattle.field.specs.Scalars.{Scalars, element_at}
use Rattle.records.specs.declared.Shape.{Shape}
use Rattle.scalar.specs.Elements.{Elements}
use Rattle.arrays.specs.Arrays.{value_of, values_by, Cell, Call, Array, array_at}
use Rattle.arrays.specs.Factors.{cell_factors, call_factors, array_factors}
use Rattle.arrays.specs.Pass.{array_value, value_at, values_below}
use Rattle.arrays.specs.Side.{Side}
use Rattle.weights.specs.Side.{prepared, ForSide, Reaches}
use Rattle.weights.specs.declared.side.Reached.{Reached}
use Rattle.key.specs.Check.{checked_key}
use Rattle.key.specs.KeyArrays.{key_arrays}
use Rattle.key.specs.declared.Counts.{Counts}
use Rattle.evaluation.specs.Embedded.{same_values_in}
use Rattle.evaluation.specs.Evaluate.{ValuesOf, Counted, values_at}
use Rattle.evaluation.specs.Sheet.{words_of, places_of, laid}

-- the numbers of each of the three are below p
pub record ValuesBelow (𝓢 : Scalars) (values : ValuesOf 𝓢) : Type 0 where
  pub a_below : Below p (𝓢.numbers values.a)
  pub b_below : Below p (𝓢.numbers values.b)
  pub c_below : Below p (𝓢.numbers values.c)

-- the tables of the two sides of a point for such a key, which have as many coordinates as `most` has bits
pub record Sides {E : Type 0} (𝓔 : Elements E) (key : List ℕ) (most : Shape) (rowwise columnwise : List E) : Type 0 where
  pub counts : Counts
  pub accepted : checked_key key ≡ given counts
  pub rows_enough : counts.rows ≤ most.rows
  pub columns_enough : counts.columns ≤ most.columns
  pub rows_ready : ForSide 𝓔 most.rows rowwise
  pub columns_ready : ForSide 𝓔 most.columns columnwise

-- the bits of array i, and how far weights over them may be taken by the tables of the two sides
pub record ReachedIn {E : Type 0} (𝓔 : Elements E) (arrays : List Array) (i : ℕ) (reached : Reached) (rowwise columnwise : List E) : Type 0 where
  pub row_bits : reached.rows.own ≡ (array_at arrays i).row_bits
  pub column_bits : reached.columns.own ≡ (array_at arrays i).column_bits
  pub rows_reached : Reaches 𝓔 rowwise reached.rows.own reached.rows.to
  pub columns_reached : Reaches 𝓔 columnwise reached.columns.own reached.columns.to

-- the values of array i on a sheet
abbrev pub sheet_values : (𝓢 : Scalars) → List ℕ → ℕ → ValuesOf 𝓢
sheet_values 𝓢 sheet i =
    record { a = element_at 𝓢 sheet (3 * i); b = element_at 𝓢 sheet (3 * i + 1); c = element_at 𝓢 sheet (3 * i + 2) }

-- a sheet has places for i arrays, and each of the arrays before i has values of numbers below p there
pub record Filled (𝓢 : Scalars) (i : ℕ) (sheet : List ℕ) : Type 0 where
  pub room : places_of 𝓢 * i ≤ length sheet
  pub below : (j : ℕ) → j < i → ValuesBelow 𝓢 (sheet_values 𝓢 sheet j)

-- the sum of no entries
abbrev pub no_entries : (𝓢 : Scalars) → Counted 𝓢
no_entries 𝓢 =
    record {
      values = record { a = 𝓢.arithmetic.nought; b = 𝓢.arithmetic.nought; c = 𝓢.arithmetic.nought };
      factors = 0;
    }

-- a sum with values added to it that a weight weighs, a product of so many factors
abbrev pub added_to : (𝓢 : Scalars) → Counted 𝓢 → ValuesOf 𝓢 → 𝓢.arithmetic.Carrier → ℕ → Counted 𝓢
added_to 𝓢 sum values weight factors =
    record {
      values = values_by (λ part. 𝓢.arithmetic.add (value_of part sum.values) (𝓢.arithmetic.mul (value_of part values) weight));
      factors = sum.factors + factors;
    }

-- a sum with a cell added to it, of an array of k row bits and k' column bits
abbrev pub cell_added : (𝓢 : Scalars) → Side 𝓢.arithmetic → Side 𝓢.arithmetic → ℕ → ℕ → Counted 𝓢 → Cell → Counted 𝓢
cell_added 𝓢 S S' k k' sum c =
    added_to 𝓢 sum (same_values_in 𝓢 c.values) (𝓢.arithmetic.mul (S.weigh k c.row) (S'.weigh k' c.column))
    (cell_factors k k')

-- A sum with a call from such an array added to it, where the called array's values stand on a sheet. The call's factor multiplies the
-- weight: once for A, B and C.
abbrev pub call_added : (𝓢 : Scalars) → List Array → Side 𝓢.arithmetic → Side 𝓢.arithmetic → List ℕ → ℕ → ℕ → Counted 𝓢 →
    Call → Counted 𝓢
call_added 𝓢 arrays S S' sheet k k' sum c =
    added_to 𝓢 sum (sheet_values 𝓢 sheet c.id)
    (𝓢.arithmetic.mul (𝓢.embed c.factor)
    (𝓢.arithmetic.mul (S.factor k (array_at arrays c.id).row_bits c.down)
    (S'.factor k' (array_at arrays c.id).column_bits c.right)))
    (call_factors k k' (array_at arrays c.id))

-- a call from an array of k row bits and k' column bits that fits, of an array whose values stand on a sheet
pub record Called (𝓢 : Scalars) (arrays : List Array) (sheet : List ℕ) (k k' : ℕ) (c : Call) : Type 0 where
  pub factor_below : c.factor < p
  pub there : c.id < length arrays
  pub rows_fit : (array_at arrays c.id).row_bits ≤ k
  pub columns_fit : (array_at arrays c.id).column_bits ≤ k'
  pub down_inside : c.down < 2 ^ (k - (array_at arrays c.id).row_bits)
  pub right_inside : c.right < 2 ^ (k' - (array_at arrays c.id).column_bits)
  pub on_sheet : places_of 𝓢 * suc c.id ≤ length sheet
  pub below : ValuesBelow 𝓢 (sheet_values 𝓢 sheet c.id)

-- the values of array i by the pass, where the values of the arrays before stand on a sheet, and the factors of its entries
abbrev pub next_counted : (𝓢 : Scalars) → List Array → Side 𝓢.arithmetic → Side 𝓢.arithmetic → List ℕ → ℕ → Counted 𝓢
next_counted 𝓢 arrays S S' sheet i =
    record {
      values = values_by (λ part.
          array_value 𝓢.arithmetic 𝓢.embed (value_of part) S S' arrays (λ j. value_of part (sheet_values 𝓢 sheet j))
          (array_at arrays i));
      factors = array_factors arrays (array_at arrays i);
    }

-- the values of array i by the pass
abbrev pub passed_values : (𝓢 : Scalars) → List Array → Side 𝓢.arithmetic → Side 𝓢.arithmetic → ℕ → ValuesOf 𝓢
passed_values 𝓢 arrays S S' i =
    values_by (λ part.
    value_at 𝓢.arithmetic (values_below 𝓢.arithmetic 𝓢.embed (value_of part) S S' arrays (length arrays)) i)

-- ---- the same of a key, by the tables of the two sides of a point

-- a sum with a cell added to it, of an array of so many bits
abbrev pub cell_by : {E : Type 0} (𝓔 : Elements E) → List E → List E → ℕ → ℕ → Counted 𝓔.scalars → Cell → Counted 𝓔.scalars
cell_by 𝓔 rowwise columnwise k k' sum c = cell_added 𝓔.scalars (prepared 𝓔 rowwise) (prepared 𝓔 columnwise) k k' sum c

-- a sum with a call added to it, from such an array
abbrev pub call_by : {E : Type 0} (𝓔 : Elements E) → List ℕ → List E → List E → List ℕ → ℕ → ℕ → Counted 𝓔.scalars → Call →
    Counted 𝓔.scalars
call_by 𝓔 key rowwise columnwise sheet k k' sum c =
    call_added 𝓔.scalars (key_arrays key) (prepared 𝓔 rowwise) (prepared 𝓔 columnwise) sheet k k' sum c

-- the values of array i, where those of the arrays before stand on a sheet, and the factors of its entries
abbrev pub next_by : {E : Type 0} (𝓔 : Elements E) → List ℕ → List E → List E → List ℕ → ℕ → Counted 𝓔.scalars
next_by 𝓔 key rowwise columnwise sheet i =
    next_counted 𝓔.scalars (key_arrays key) (prepared 𝓔 rowwise) (prepared 𝓔 columnwise) sheet i

-- a sheet on which the values of so many arrays are written
abbrev pub passed_by : {E : Type 0} → Elements E → List ℕ → List E → List E → ℕ → List ℕ → List ℕ
passed_by 𝓔 key rowwise columnwise arrays sheet =
    laid 0
    (λ i. words_of 𝓔.scalars (passed_values 𝓔.scalars (key_arrays key) (prepared 𝓔 rowwise) (prepared 𝓔 columnwise) i))
    arrays sheet

-- a sheet on which the values of so many arrays of a key at a point are written
abbrev pub written_by : Scalars → List ℕ → List ℕ → List ℕ → ℕ → List ℕ → List ℕ
written_by 𝓢 key rows columns arrays sheet = laid 0 (λ i. words_of 𝓢 (values_at 𝓢 (key_arrays key) rows columns i)) arrays sheet
