-- The bytes of an array's entries, read one entry at a time: each is added to the sum, and where no whole entry is left the sum is the
-- array's values and its factors.
use Prim.Native.Nat.{ℕ, ◌+◌, ◌<◌}
use mathlib.Core.Bool.{true, false}
use mathlib.Core.List.{List, [], ◌∷◌, ◌++◌}
use mathlib.Core.Path.{◌≡◌, ap, subst, ◌∙◌}
use native.Mathlib.Decide.{dec_lt}
use native.Mathlib.Omega.{arith}
use lib.ListN.{length, length-append, drop}
use Rattle.field.specs.Scalars.{Scalars}
use Rattle.records.specs.Inner.{call_size}
use Rattle.records.specs.Kinds.{cell_fields, call_fields, scaled_call_fields}
use Rattle.records.specs.Layout.{fields_in}
use Rattle.records.specs.declared.Call.{Call as CallRecord}
use Rattle.records.specs.declared.Cell.{Cell as CellRecord}
use Rattle.records.specs.declared.ScaledCall.{ScaledCall}
use Rattle.arrays.specs.Arrays.{array_at}
use Rattle.arrays.specs.Side.{Side}
use Rattle.arrays.specs.WellFormed.{CellFits}
use Rattle.key.specs.Indexed.{Sparse, Recursive}
use Rattle.key.specs.KeyArrays.{cell_in, call_in, scaled_call_in, key_arrays, key_scaled}
use Rattle.key.proofs.EntriesLeft.{runs-ahead, Left}
use Rattle.key.proofs.EntryChunks.{Rest, Chunk, chunk-taken}
use Rattle.evaluation.specs.Evaluate.{Counted}
use Rattle.evaluation.specs.Inner.{Filled, Called, no_entries, cell_added, call_added, next_counted}
use Rattle.evaluation.proofs.NextEntryAdded.{cell-fits, cell-added, call-called, call-added, scaled-call-called, scaled-call-added}
use Rattle.evaluation.proofs.SumIsArrayValues.{cells-done, calls-done}
use Rattle.evaluation.proofs.SumOfEntries.{CellsLeft, CallsLeft, cells-begun, calls-begun, cell-next, call_next}

module _ (𝓢 : Scalars) (key : List ℕ) (S S' : Side 𝓢.arithmetic) (sheet : List ℕ) (i to : ℕ) where
  -- some cells of array i are left in some bytes, and the sum of those before them is `sum`
  pub record CellsIn (sum : Counted 𝓢) (bytes : List ℕ) : Type 0 where
    pub at : ℕ
    pub stand : Rest key to bytes at
    pub left : CellsLeft 𝓢 key S S' sheet i to sum at

  -- the same of calls
  pub record CallsIn (sum : Counted 𝓢) (bytes : List ℕ) : Type 0 where
    pub at : ℕ
    pub stand : Rest key to bytes at
    pub left : CallsLeft 𝓢 key S S' sheet i to sum at

  module _ (sum : Counted 𝓢) (nothing : sum ≡ no_entries 𝓢) (at : ℕ) (bytes : List ℕ) (stand : Rest key to bytes at)
      (left : Left key i to (array_at (key_arrays key) i).entries at) where
    pub cells-in : Sparse (array_at (key_arrays key) i).entries → CellsIn sum bytes
    cells-in sparse = record { at = at; stand = stand; left = rw nothing (cells-begun 𝓢 key S S' sheet i to at left sparse) }

    pub calls-in : Recursive (array_at (key_arrays key) i).entries → CallsIn sum bytes
    calls-in recursive = record { at = at; stand = stand; left = rw nothing (calls-begun 𝓢 key S S' sheet i to at left recursive) }

  pub cells-over : (sum : Counted 𝓢) (bytes : List ℕ) → length bytes < 21 → CellsIn sum bytes → sum ≡ next_counted 𝓢 (key_arrays key) S S' sheet i
  cells-over sum bytes l here =
      elim (dec_lt here.at to) [
        | yes more ↦ (let next = (cell-next 𝓢 key S S' sheet i to sum here.at more here.left).onward.adding.left in
            absurd (omega (arith, l, here.stand.ends, runs-ahead key _ _ to next.runs)))
        | no none ↦ cells-done 𝓢 key S S' sheet i to sum here.at (omega (arith, none)) here.left
      ]

  pub calls-over : (sum : Counted 𝓢) (bytes : List ℕ) → length bytes < call_size (key_scaled key) → CallsIn sum bytes →
      sum ≡ next_counted 𝓢 (key_arrays key) S S' sheet i
  calls-over sum bytes l here =
      elim (dec_lt here.at to) [
        | yes more ↦ (let next = (call_next 𝓢 key S S' sheet i to sum here.at more here.left).onward.adding.left in
            absurd (omega (arith, l, here.stand.ends, runs-ahead key _ _ to next.runs)))
        | no none ↦ calls-done 𝓢 key S S' sheet i to sum here.at (omega (arith, none)) here.left
      ]

  -- where the array has k row bits and k' column bits, and an entry of so many bytes is taken off the others
  module _ (k k' : ℕ) (rows : k ≡ (array_at (key_arrays key) i).row_bits) (columns : k' ≡ (array_at (key_arrays key) i).column_bits)
      (sum : Counted 𝓢) (bytes chunk others : List ℕ) (size : ℕ) (some : 0 < size) (long : length chunk ≡ size) (is : bytes ≡ chunk ++ others)
    where
      here-before : (at : ℕ) → Rest key to bytes at → at < to
      here-before at stand = omega (arith, stand.ends, long, some, ap (length {A = ℕ}) is, length-append chunk others)

      taken : (at : ℕ) → Rest key to bytes at → Chunk key to chunk others at
      taken at stand = chunk-taken key to bytes chunk others at stand is

      behind : (at : ℕ) → Rest key to bytes at → Rest key to others (at + size)
      behind at stand = subst (λ (n : ℕ). Rest key to others (at + n)) long (taken at stand).onward

      module _ (here : CellsIn sum bytes) (whole : size ≡ 21) (c : CellRecord)
          (read : cell_fields c ≡ fields_in (4 ∷ 4 ∷ 4 ∷ 4 ∷ 4 ∷ []) (drop 1 chunk)) where
        there : cell_fields c ≡ fields_in (4 ∷ 4 ∷ 4 ∷ 4 ∷ 4 ∷ []) (drop (here.at + 1) key)
        there = read ∙ (taken here.at here.stand).read (4 ∷ 4 ∷ 4 ∷ 4 ∷ 4 ∷ []) (omega (arith, long, whole))

        pub cell-here : CellFits k k' (cell_in c)
        cell-here =
            cell-fits 𝓢 key S S' sheet i to k k' rows columns sum here.at (here-before here.at here.stand) here.left c there

        pub cell-turn : (more : Counted 𝓢) → more ≡ cell_added 𝓢 S S' k k' sum (cell_in c) → CellsIn more others
        cell-turn more m =
            record {
              at = here.at + 21;
              stand = subst (λ (n : ℕ). Rest key to others (here.at + n)) whole (behind here.at here.stand);
              left = cell-added 𝓢 key S S' sheet i to k k' rows columns sum here.at (here-before here.at here.stand) here.left c there more m;
            }

      module _ (here : CallsIn sum bytes) (edition : key_scaled key ≡ false) (whole : size ≡ 11) (c : CallRecord)
          (read : call_fields c ≡ fields_in (2 ∷ 4 ∷ 4 ∷ []) (drop 1 chunk)) where
        plain-there : call_fields c ≡ fields_in (2 ∷ 4 ∷ 4 ∷ []) (drop (here.at + 1) key)
        plain-there = read ∙ (taken here.at here.stand).read (2 ∷ 4 ∷ 4 ∷ []) (omega (arith, long, whole))

        pub call-here : i < length (key_arrays key) → Filled 𝓢 i sheet → Called 𝓢 (key_arrays key) sheet k k' (call_in c)
        call-here =
            call-called 𝓢 key S S' sheet i to k k' rows columns sum here.at (here-before here.at here.stand) here.left edition c plain-there

        pub call-turn : (more : Counted 𝓢) → more ≡ call_added 𝓢 (key_arrays key) S S' sheet k k' sum (call_in c) → CallsIn more others
        call-turn more m =
            record {
              at = here.at + 11;
              stand = subst (λ (n : ℕ). Rest key to others (here.at + n)) whole (behind here.at here.stand);
              left = call-added 𝓢 key S S' sheet i to k k' rows columns sum here.at (here-before here.at here.stand) here.left edition c plain-there
                  more m;
            }

      module _ (here : CallsIn sum bytes) (edition : key_scaled key ≡ true) (whole : size ≡ 15) (c : ScaledCall)
          (read : scaled_call_fields c ≡ fields_in (2 ∷ 4 ∷ 4 ∷ 4 ∷ []) (drop 1 chunk)) where
        scaled-there : scaled_call_fields c ≡ fields_in (2 ∷ 4 ∷ 4 ∷ 4 ∷ []) (drop (here.at + 1) key)
        scaled-there = read ∙ (taken here.at here.stand).read (2 ∷ 4 ∷ 4 ∷ 4 ∷ []) (omega (arith, long, whole))

        pub scaled-call-here : i < length (key_arrays key) → Filled 𝓢 i sheet → Called 𝓢 (key_arrays key) sheet k k' (scaled_call_in c)
        scaled-call-here =
            scaled-call-called 𝓢 key S S' sheet i to k k' rows columns sum here.at (here-before here.at here.stand) here.left edition c
            scaled-there

        pub scaled-call-turn : (more : Counted 𝓢) → more ≡ call_added 𝓢 (key_arrays key) S S' sheet k k' sum (scaled_call_in c) →
            CallsIn more others
        scaled-call-turn more m =
            record {
              at = here.at + 15;
              stand = subst (λ (n : ℕ). Rest key to others (here.at + n)) whole (behind here.at here.stand);
              left = scaled-call-added 𝓢 key S S' sheet i to k k' rows columns sum here.at (here-before here.at here.stand) here.left edition c
                  scaled-there more m;
            }
