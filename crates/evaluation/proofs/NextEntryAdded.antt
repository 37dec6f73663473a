-- The cell or the call that is read at an offset is the array's next entry, and is added to the sum.
use Rattle.std.specs.Prelude.{Ok}
use Prim.Native.Nat.{ℕ, ◌+◌, ◌<◌}
use mathlib.Core.Bool.{Bool, true, false}
use mathlib.Core.List.{List, [], ◌∷◌}
use mathlib.Core.Path.{◌≡◌, sym, ap, ap₂, subst, ◌∙◌}
use native.Mathlib.Nat.{mul-le-mul_left}
use native.Mathlib.Omega.{arith}
use lib.ListN.{length, get_or, drop}
use Rattle.field.specs.Scalars.{Scalars}
use Rattle.records.specs.Inner.{call_size}
use Rattle.records.specs.Kinds.{cell_fields, call_fields, scaled_call_fields}
use Rattle.records.specs.Layout.{fields_in}
use Rattle.records.specs.Take.{taken_outcome, taken_at}
use Rattle.records.specs.declared.Call.{Call as CallRecord}
use Rattle.records.specs.declared.Cell.{Cell as CellRecord}
use Rattle.records.specs.declared.ScaledCall.{ScaledCall}
use Rattle.records.proofs.PresentIsTaken.{taken-present}
use Rattle.arrays.specs.Arrays.{Call, Array, array_at}
use Rattle.arrays.specs.Placing.{blocks}
use Rattle.arrays.specs.Side.{Side}
use Rattle.arrays.specs.WellFormed.{CellFits, CallFits}
use Rattle.key.specs.Encoding.{cell_record, call_record, FactorIn}
use Rattle.key.specs.KeyArrays.{cell_in, call_in, scaled_call_in, key_arrays, key_scaled}
use Rattle.evaluation.specs.Evaluate.{Counted}
use Rattle.evaluation.specs.Inner.{Filled, Called, cell_added, call_added}
use Rattle.evaluation.specs.Sheet.{places_of}
use Rattle.evaluation.proofs.SumOfEntries.{CellsLeft, CallsLeft, CellNext, CallNext, cell-next, call_next}

-- the call that is read where a call of an edition stands is that call
plain-call : (key : List ℕ) (at : ℕ) (call : Call) (next : ℕ) →
    taken_at key at ≡ taken_outcome (Ok ((call_record false call), next)) → call.factor ≡ 1 →
    (c : CallRecord) → call_fields c ≡ fields_in (2 ∷ 4 ∷ 4 ∷ []) (drop (at + 1) key) → call ≡ call_in c
plain-call key at call next taken one c read =
    let fields = (taken-present key at (call_record false call) next taken).0.fields ∙ sym read in
    let id = ap (λ (list : List ℕ). get_or list 0 0) fields in
    let down = ap (λ (list : List ℕ). get_or list 1 0) fields in
    let right = ap (λ (list : List ℕ). get_or list 2 0) fields in
    λ t. record { id = id t; down = down t; right = right t; factor = one t }

scaled-call : (key : List ℕ) (at : ℕ) (call : Call) (next : ℕ) →
    taken_at key at ≡ taken_outcome (Ok ((call_record true call), next)) →
    (c : ScaledCall) → scaled_call_fields c ≡ fields_in (2 ∷ 4 ∷ 4 ∷ 4 ∷ []) (drop (at + 1) key) → call ≡ scaled_call_in c
scaled-call key at call next taken c read =
    let fields = (taken-present key at (call_record true call) next taken).0.fields ∙ sym read in
    let id = ap (λ (list : List ℕ). get_or list 0 0) fields in
    let down = ap (λ (list : List ℕ). get_or list 1 0) fields in
    let right = ap (λ (list : List ℕ). get_or list 2 0) fields in
    let factor = ap (λ (list : List ℕ). get_or list 3 0) fields in
    λ t. record { id = id t; down = down t; right = right t; factor = factor t }

-- where array i has k row bits and k' column bits
module _ (𝓢 : Scalars) (key : List ℕ) (S S' : Side 𝓢.arithmetic) (sheet : List ℕ) (i to k k' : ℕ)
    (rows : k ≡ (array_at (key_arrays key) i).row_bits) (columns : k' ≡ (array_at (key_arrays key) i).column_bits) (sum : Counted 𝓢) (at : ℕ)
    (l : at < to) where
  abbrev own : Array
  own = array_at (key_arrays key) i

  -- a cell
  module _ (here : CellsLeft 𝓢 key S S' sheet i to sum at) where
    cell : CellNext 𝓢 key S S' sheet i to sum at
    cell = cell-next 𝓢 key S S' sheet i to sum at l here

    module _ (c : CellRecord) (read : cell_fields c ≡ fields_in (4 ∷ 4 ∷ 4 ∷ 4 ∷ 4 ∷ []) (drop (at + 1) key)) where
      -- the cell that is read is the next one
      same-cell : cell.c ≡ cell_in c
      same-cell =
          let fields = (taken-present key at (cell_record cell.c) (at + 21) cell.taken).0.fields ∙ sym read in
          let row = ap (λ (list : List ℕ). get_or list 0 0) fields in
          let column = ap (λ (list : List ℕ). get_or list 1 0) fields in
          let a = ap (λ (list : List ℕ). get_or list 2 0) fields in
          let b = ap (λ (list : List ℕ). get_or list 3 0) fields in
          let c = ap (λ (list : List ℕ). get_or list 4 0) fields in
          λ t. record { row = row t; column = column t; values = record { a = a t; b = b t; c = c t } }

      pub cell-fits : CellFits k k' (cell_in c)
      cell-fits = rw (rows, columns) (subst (CellFits own.row_bits own.column_bits) same-cell cell.fits)

      pub cell-added : (more : Counted 𝓢) → more ≡ cell_added 𝓢 S S' k k' sum (cell_in c) → CellsLeft 𝓢 key S S' sheet i to more (at + 21)
      cell-added more m =
          subst (λ (v : Counted 𝓢). CellsLeft 𝓢 key S S' sheet i to v (at + 21))
          (ap (cell_added 𝓢 S S' own.row_bits own.column_bits sum) same-cell
          ∙ ap₂ (λ (n n' : ℕ). cell_added 𝓢 S S' n n' sum (cell_in c)) (sym rows) (sym columns)
          ∙ sym m)
          cell.onward

  -- a call
  module _ (here : CallsLeft 𝓢 key S S' sheet i to sum at) where
    call : CallNext 𝓢 key S S' sheet i to sum at
    call = call_next 𝓢 key S S' sheet i to sum at l here

    -- in an edition
    module _ (scaled : Bool) (edition : key_scaled key ≡ scaled) where
      stands : taken_at key at ≡ taken_outcome (Ok ((call_record scaled call.c), (at + call_size scaled)))
      stands = subst (λ (s : Bool). taken_at key at ≡ taken_outcome (Ok ((call_record s call.c), (at + call_size s)))) edition call.taken

      writes : FactorIn scaled call.c.factor
      writes = subst (λ (s : Bool). FactorIn s call.c.factor) edition call.written

    -- the next call
    module _ (c : Call) (is : call.c ≡ c) where
      next_fits : CallFits blocks blocks (key_arrays key) i k k' c
      next_fits = rw (rows, columns) (subst (CallFits blocks blocks (key_arrays key) i own.row_bits own.column_bits) is call.fits)

      next-called : i < length (key_arrays key) → Filled 𝓢 i sheet → Called 𝓢 (key_arrays key) sheet k k' c
      next-called inside filled =
          record {
            factor_below = next_fits.factor_below;
            there = omega (arith, next_fits.earlier);
            rows_fit = next_fits.rows_fit;
            columns_fit = next_fits.columns_fit;
            down_inside = next_fits.down_inside;
            right_inside = next_fits.right_inside;
            on_sheet = omega (arith, mul-le-mul_left (places_of 𝓢) next_fits.earlier, filled.room);
            below = filled.below c.id next_fits.earlier;
          }

      next-added : (scaled : Bool) → key_scaled key ≡ scaled → (more : Counted 𝓢) →
          more ≡ call_added 𝓢 (key_arrays key) S S' sheet k k' sum c → CallsLeft 𝓢 key S S' sheet i to more (at + call_size scaled)
      next-added scaled edition more m =
          subst (λ (s : Bool). CallsLeft 𝓢 key S S' sheet i to more (at + call_size s)) edition
          (subst (λ (v : Counted 𝓢). CallsLeft 𝓢 key S S' sheet i to v (at + call_size (key_scaled key)))
          (ap (call_added 𝓢 (key_arrays key) S S' sheet own.row_bits own.column_bits sum) is
          ∙ ap₂ (λ (n n' : ℕ). call_added 𝓢 (key_arrays key) S S' sheet n n' sum c) (sym rows) (sym columns)
          ∙ sym m)
          call.onward)

    module _ (edition : key_scaled key ≡ false) (c : CallRecord) (read : call_fields c ≡ fields_in (2 ∷ 4 ∷ 4 ∷ []) (drop (at + 1) key)) where
      plain : call.c ≡ call_in c
      plain = plain-call key at call.c _ (stands false edition) (writes false edition) c read

      pub call-called : i < length (key_arrays key) → Filled 𝓢 i sheet → Called 𝓢 (key_arrays key) sheet k k' (call_in c)
      call-called = next-called (call_in c) plain

      pub call-added : (more : Counted 𝓢) → more ≡ call_added 𝓢 (key_arrays key) S S' sheet k k' sum (call_in c) →
          CallsLeft 𝓢 key S S' sheet i to more (at + 11)
      call-added = next-added (call_in c) plain false edition

    module _ (edition : key_scaled key ≡ true) (c : ScaledCall)
        (read : scaled_call_fields c ≡ fields_in (2 ∷ 4 ∷ 4 ∷ 4 ∷ []) (drop (at + 1) key)) where
      scaled : call.c ≡ scaled_call_in c
      scaled = scaled-call key at call.c _ (stands true edition) c read

      pub scaled-call-called : i < length (key_arrays key) → Filled 𝓢 i sheet → Called 𝓢 (key_arrays key) sheet k k' (scaled_call_in c)
      scaled-call-called = next-called (scaled_call_in c) scaled

      pub scaled-call-added : (more : Counted 𝓢) → more ≡ call_added 𝓢 (key_arrays key) S S' sheet k k' sum (scaled_call_in c) →
          CallsLeft 𝓢 key S S' sheet i to more (at + 15)
      scaled-call-added = next-added (scaled_call_in c) scaled true edition
