-- An array's entries added up one by one: what is left of them, and what their sum becomes.
use Rattle.std.specs.Prelude.{Ok}
use Prim.Native.Nat.{ℕ, ◌+◌, ◌<◌}
use mathlib.Core.List.{List, [], ◌∷◌, foldl}
use mathlib.Core.Path.{◌≡◌, refl, sym, ap, ◌∙◌}
use native.Mathlib.Omega.{arith}
use Rattle.field.specs.Scalars.{Scalars}
use Rattle.records.specs.Inner.{call_size}
use Rattle.records.specs.Take.{taken_outcome, taken_at}
use Rattle.arrays.specs.Arrays.{Part, A, B, C, value_of, Cell, Call, Entries, cells, calls, Array, array_at}
use Rattle.arrays.specs.Factors.{call_factors, entries_factors, sum_of}
use Rattle.arrays.specs.Pass.{entries_terms}
use Rattle.arrays.specs.Placing.{blocks}
use Rattle.arrays.specs.Side.{Side}
use Rattle.arrays.specs.WellFormed.{CellFits, CallFits}
use Rattle.arrays.proofs.Parts.{value-by}
use Rattle.key.specs.Encoding.{cell_record, call_record, FactorIn}
use Rattle.key.specs.Indexed.{Sparse, Recursive}
use Rattle.key.specs.KeyArrays.{key_arrays, key_scaled}
use Rattle.key.proofs.EntriesLeft.{Left, cell-first, call-first}
use Rattle.evaluation.specs.Embedded.{same_values_in}
use Rattle.evaluation.specs.Evaluate.{ValuesOf, Counted}
use Rattle.evaluation.specs.Inner.{sheet_values, no_entries, added_to, cell_added, call_added, next_counted}

module _ (𝓢 : Scalars) (key : List ℕ) (S S' : Side 𝓢.arithmetic) (sheet : List ℕ) (i to : ℕ) where
  abbrev Element : Type 0
  Element = 𝓢.arithmetic.Carrier

  abbrev add : Element → Element → Element
  add = 𝓢.arithmetic.add

  abbrev mul : Element → Element → Element
  mul = 𝓢.arithmetic.mul

  part-added : (sum : Counted 𝓢) (values : ValuesOf 𝓢) (weight : Element) (factors : ℕ) (part : Part) →
      value_of part (added_to 𝓢 sum values weight factors).values ≡ add (value_of part sum.values) (mul (value_of part values) weight)
  part-added sum values weight factors = value-by (λ part. add (value_of part sum.values) (mul (value_of part values) weight))

  abbrev own : Array
  own = array_at (key_arrays key) i

  -- what entries add to a part
  abbrev terms : Part → Entries → List Element
  terms part entries =
      entries_terms 𝓢.arithmetic 𝓢.embed (value_of part) S S' own.row_bits own.column_bits
      (key_arrays key) (λ j. value_of part (sheet_values 𝓢 sheet j)) entries

  -- how many factors entries have
  abbrev count : Entries → ℕ
  count entries = sum_of (entries_factors (key_arrays key) own.row_bits own.column_bits entries)

  -- what a sum becomes by the entries from `todo` on: the values and the factors of array i
  pub record Becomes (sum : Counted 𝓢) (todo : Entries) : Type 0 where
    pub values : (part : Part) →
        foldl add (value_of part sum.values) (terms part todo)
        ≡ value_of part (next_counted 𝓢 (key_arrays key) S S' sheet i).values
    pub factors : sum.factors + count todo ≡ (next_counted 𝓢 (key_arrays key) S S' sheet i).factors

  -- at an offset, where some entries of array i are left and the sum of those before them is `sum`
  pub record Adding (todo : Entries) (sum : Counted 𝓢) (at : ℕ) : Type 0 where
    pub left : Left key i to todo at
    pub becomes : Becomes sum todo

  -- the same where they are cells, and where they are calls
  pub record CellsLeft (sum : Counted 𝓢) (at : ℕ) : Type 0 where
    pub todo : List Cell
    pub adding : Adding (cells todo) sum at

  pub record CallsLeft (sum : Counted 𝓢) (at : ℕ) : Type 0 where
    pub todo : List Call
    pub adding : Adding (calls todo) sum at

  -- before the first entry
  module _ (at : ℕ) (left : Left key i to own.entries at) where
    begun : Adding own.entries (no_entries 𝓢) at
    begun =
        record {
          left = left;
          becomes = record {
            values = λ part. nought part ∙ sym (value-by (λ part. foldl add 𝓢.arithmetic.nought (terms part own.entries)) part);
            factors = omega arith;
          };
        }
      where
        nought : (part : Part) →
            foldl add (value_of part (no_entries 𝓢).values) (terms part own.entries)
            ≡ foldl add 𝓢.arithmetic.nought (terms part own.entries)
        nought A = refl
        nought B = refl
        nought C = refl

    pub cells-begun : Sparse own.entries → CellsLeft (no_entries 𝓢) at
    cells-begun sparse = go own.entries sparse begun
      where
        go : (entries : Entries) → Sparse entries → Adding entries (no_entries 𝓢) at → CellsLeft (no_entries 𝓢) at
        go (cells list) sparse adding = record { todo = list; adding = adding }
        go (calls list) sparse adding = absurd sparse

    pub calls-begun : Recursive own.entries → CallsLeft (no_entries 𝓢) at
    calls-begun recursive = go own.entries recursive begun
      where
        go : (entries : Entries) → Recursive entries → Adding entries (no_entries 𝓢) at → CallsLeft (no_entries 𝓢) at
        go (cells list) recursive adding = absurd recursive
        go (calls list) recursive adding = record { todo = list; adding = adding }

  -- what the weights of a cell and of a call are
  abbrev cell_weight : Cell → Element
  cell_weight c = mul (S.weigh own.row_bits c.row) (S'.weigh own.column_bits c.column)

  abbrev call_weight : Call → Element
  call_weight c =
      mul (𝓢.embed c.factor)
      (mul (S.factor own.row_bits (array_at (key_arrays key) c.id).row_bits c.down)
      (S'.factor own.column_bits (array_at (key_arrays key) c.id).column_bits c.right))

  -- the next cell, and the next call
  pub record CellNext (sum : Counted 𝓢) (at : ℕ) : Type 0 where
    pub c : Cell
    pub taken : taken_at key at ≡ taken_outcome (Ok ((cell_record c), (at + 21)))
    pub fits : CellFits own.row_bits own.column_bits c
    pub onward : CellsLeft (cell_added 𝓢 S S' own.row_bits own.column_bits sum c) (at + 21)

  pub record CallNext (sum : Counted 𝓢) (at : ℕ) : Type 0 where
    pub c : Call
    pub taken : taken_at key at ≡ taken_outcome (Ok ((call_record (key_scaled key) c), (at + call_size (key_scaled key))))
    pub fits : CallFits blocks blocks (key_arrays key) i own.row_bits own.column_bits c
    pub written : FactorIn (key_scaled key) c.factor
    pub onward :
        CallsLeft (call_added 𝓢 (key_arrays key) S S' sheet own.row_bits own.column_bits sum c) (at + call_size (key_scaled key))

  pub cell-next : (sum : Counted 𝓢) (at : ℕ) → at < to → CellsLeft sum at → CellNext sum at
  unfolding entries_terms
  cell-next sum at l here = go here.todo here.adding
    where
      go : (todo : List Cell) → Adding (cells todo) sum at → CellNext sum at
      go [] adding = absurd (omega (arith, adding.left.runs))
      go (c ∷ list) adding =
          let first = cell-first key i to c list at adding.left in
          record {
            c = c;
            taken = first.taken;
            fits = first.fits;
            onward = record {
              todo = list;
              adding = record {
                left = first.onward;
                becomes = record {
                  values = λ part.
                      ap (λ (x : Element). foldl add x (terms part (cells list)))
                      (part-added sum (same_values_in 𝓢 c.values) (cell_weight c) (own.row_bits + own.column_bits) part
                      ∙ ap (λ (x : Element). add (value_of part sum.values) (mul x (cell_weight c)))
                      (value-by (λ part. 𝓢.embed (value_of part c.values)) part))
                      ∙ adding.becomes.values part;
                  factors = omega (arith, adding.becomes.factors);
                };
              };
            };
          }

  pub call_next : (sum : Counted 𝓢) (at : ℕ) → at < to → CallsLeft sum at → CallNext sum at
  unfolding entries_terms
  call_next sum at l here = go here.todo here.adding
    where
      go : (todo : List Call) → Adding (calls todo) sum at → CallNext sum at
      go [] adding = absurd (omega (arith, adding.left.runs))
      go (c ∷ list) adding =
          let first = call-first key i to c list at adding.left in
          record {
            c = c;
            taken = first.taken;
            fits = first.fits;
            written = first.written;
            onward = record {
              todo = list;
              adding = record {
                left = first.onward;
                becomes = record {
                  values = λ part.
                      ap (λ (x : Element). foldl add x (terms part (calls list)))
                      (part-added sum (sheet_values 𝓢 sheet c.id) (call_weight c)
                      (call_factors own.row_bits own.column_bits (array_at (key_arrays key) c.id)) part)
                      ∙ adding.becomes.values part;
                  factors = omega (arith, adding.becomes.factors);
                };
              };
            };
          }
