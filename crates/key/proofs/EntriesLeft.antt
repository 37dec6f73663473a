-- The entries of an array that are left from an offset on: what stands there, and what is left behind it.
use Rattle.std.specs.Prelude.{Ok}
use Prim.Native.Nat.{ℕ, ◌+◌, ◌*◌, ◌≤◌, ◌<◌}
use mathlib.Core.List.{List, [], ◌∷◌}
use mathlib.Core.Path.{◌≡◌, sym, ap, subst, ◌∙◌}
use native.Mathlib.Omega.{arith}
use lib.ListN.{length, get_or}
use Rattle.records.specs.Inner.{call_size}
use Rattle.records.specs.Kinds.{encoded}
use Rattle.records.specs.Take.{taken_outcome, taken_at}
use Rattle.records.specs.declared.Record.{Record}
use Rattle.records.proofs.TakeCases.{given-onward}
use Rattle.arrays.specs.Arrays.{Cell, Call, Entries, cells, calls, Array, array_at}
use Rattle.arrays.specs.Placing.{blocks}
use Rattle.arrays.specs.WellFormed.{CellFits, CallFits, EntriesFit}
use Rattle.key.specs.Encoding.{cell_record, call_record, entry_records, FactorIn, EntriesIn}
use Rattle.key.specs.Index.{Runs}
use Rattle.key.specs.Indexed.{Indexed}
use Rattle.key.specs.KeyArrays.{key_arrays, key_scaled}
use Rattle.key.proofs.Encodings.{call_length}
use Rattle.key.proofs.IndexedKey.{accepts, behind_array, entries-run, entries-written}

-- records have a byte or more each, up to the offset behind them
pub runs-ahead : (key : List ℕ) (at : ℕ) (records : List Record) (to : ℕ) → Runs key at records to → at + length records ≤ to
runs-ahead key at [] to runs = omega arith
runs-ahead key at (r ∷ records) to runs =
    omega (arith, (given-onward key at _ runs.0).0, runs-ahead key (at + length (encoded r)) records to runs.1)

module _ (key : List ℕ) (i to : ℕ) where
  abbrev own : Array
  own = array_at (key_arrays key) i

  -- some entries of array i, which run from an offset up to `to`
  pub record Left (todo : Entries) (at : ℕ) : Type 0 where
    pub runs : Runs key at (entry_records (key_scaled key) todo) to
    pub fit : EntriesFit blocks blocks (key_arrays key) i own.row_bits own.column_bits todo
    pub written : EntriesIn (key_scaled key) todo

  -- a cell stands at the offset, and others are left behind it
  pub record CellFirst (c : Cell) (list : List Cell) (at : ℕ) : Type 0 where
    pub taken : taken_at key at ≡ taken_outcome (Ok ((cell_record c), (at + 21)))
    pub fits : CellFits own.row_bits own.column_bits c
    pub onward : Left (cells list) (at + 21)

  pub cell-first : (c : Cell) (list : List Cell) (at : ℕ) → Left (cells (c ∷ list)) at → CellFirst c list at
  cell-first c list at left =
      record {
        taken = left.runs.0;
        fits = left.fit.0;
        onward = record { runs = left.runs.1; fit = left.fit.1; written = tt };
      }

  -- the same of a call, in the key's edition
  pub record CallFirst (c : Call) (list : List Call) (at : ℕ) : Type 0 where
    pub taken : taken_at key at ≡ taken_outcome (Ok ((call_record (key_scaled key) c), (at + call_size (key_scaled key))))
    pub fits : CallFits blocks blocks (key_arrays key) i own.row_bits own.column_bits c
    pub written : FactorIn (key_scaled key) c.factor
    pub onward : Left (calls list) (at + call_size (key_scaled key))

  pub call-first : (c : Call) (list : List Call) (at : ℕ) → Left (calls (c ∷ list)) at → CallFirst c list at
  call-first c list at left =
      let size = call_length (key_scaled key) c in
      record {
        taken =
            left.runs.0 ∙ ap (λ (n : ℕ). taken_outcome (Ok ((call_record (key_scaled key) c), (at + n)))) size;
        fits = left.fit.0;
        written = left.written.0;
        onward = record {
          runs = subst (λ (n : ℕ). Runs key (at + n) (entry_records (key_scaled key) (calls list)) to) size left.runs.1;
          fit = left.fit.1;
          written = left.written.1;
        };
      }

  -- so many bytes are cells
  pub cells-bytes : (list : List Cell) (at : ℕ) → Left (cells list) at → to ≡ at + 21 * length list
  cells-bytes [] at left = omega (arith, left.runs)
  cells-bytes (c ∷ list) at left = omega (arith, cells-bytes list (at + 21) (cell-first c list at left).onward)

-- behind an array's opening all its entries are left
pub entries-left : (key starts : List ℕ) (indexed : Indexed key starts) (i : ℕ) → i < length (key_arrays key) → (to : ℕ) →
    to ≡ behind_array key starts indexed i → Left key i to (array_at (key_arrays key) i).entries (get_or starts i 0 + 3)
entries-left key starts indexed i l to e =
    record {
      runs =
          subst (Runs key (get_or starts i 0 + 3) (entry_records (key_scaled key) (array_at (key_arrays key) i).entries)) (sym e)
          (entries-run key starts indexed i l);
      fit = ((accepts key starts indexed).well_formed.arrays_fit i l).entries_fit;
      written = entries-written key starts indexed i l;
    }
