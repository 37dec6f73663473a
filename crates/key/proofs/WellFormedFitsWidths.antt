-- The records of well_formed arrays fit their widths, and none of them but the last is an end.
use Prim.Native.Nat.{ℕ, ◌-◌, ◌^◌, ◌≤◌}
use mathlib.Core.Bool.{Bool, true, false}
use mathlib.Core.List.{flat_map, List, [], ◌∷◌, ◌++◌}
use mathlib.Core.Path.{◌≡◌, refl, sym, ap, ◌∙◌, subst}
use native.Mathlib.Nat.{pow-le-pow_right}
use native.Mathlib.Omega.{arith}
use lib.ListN.{length, length-append}
use lib.Seq.{append_snoc, get_or-append_seam}
use Rattle.records.specs.Inner.{Fitting}
use Rattle.records.specs.declared.Record.{Record}
use Rattle.arrays.specs.Arrays.{Cell, Call, Entries, cells, calls, Array, array_at}
use Rattle.arrays.specs.Placing.{blocks}
use Rattle.arrays.specs.WellFormed.{Each, CellFits, CallFits, EntriesFit, ArrayFits, WellFormed}
use Rattle.arrays.proofs.EachElement.{each_append, each_map, each-mapped}
use Rattle.key.specs.Encoding.{cell_record, call_record, opening_record, entry_records, head_record, array_records, arrays_records, key_records}
use Rattle.key.proofs.EndOrOnward.{Onward}

-- ---- none is an end

call-onward : (scaled : Bool) (c : Call) → Onward (call_record scaled c)
call-onward false c = refl
call-onward true c = refl

entries-onward : (scaled : Bool) (entries : Entries) → Each Onward (entry_records scaled entries)
entries-onward scaled (cells list) = each-mapped Onward cell_record (λ c. refl) list
entries-onward scaled (calls list) = each-mapped Onward (call_record scaled) (call-onward scaled) list

opening-onward : (k k' : ℕ) (entries : Entries) → Onward (opening_record k k' entries)
opening-onward k k' (cells list) = refl
opening-onward k k' (calls list) = refl

pub arrays-onward : (scaled : Bool) (arrays : List Array) → Each Onward (arrays_records scaled arrays)
unfolding flat_map
arrays-onward scaled [] = tt
arrays-onward scaled (array ∷ arrays) =
    each_append Onward (array_records scaled array) (arrays_records scaled arrays)
    (opening-onward array.row_bits array.column_bits array.entries, entries-onward scaled array.entries)
    (arrays-onward scaled arrays)

-- ---- the widths

-- at most 30 bits give numbers below 2^30
power : (k : ℕ) → k ≤ 30 → 2 ^ k ≤ 1073741824
power k h = pow-le-pow_right {n = 2} (omega arith) h

cell-fitting : (k k' : ℕ) → k ≤ 30 → k' ≤ 30 → (c : Cell) → CellFits k k' c → Fitting (cell_record c)
cell-fitting k k' l l' c fits = omega (arith, fits, power k l, power k' l')

call-fitting : (scaled : Bool) (all : List Array) (i k k' : ℕ) → i ≤ 1024 → k ≤ 30 → k' ≤ 30 → (c : Call) →
    CallFits blocks blocks all i k k' c → Fitting (call_record scaled c)
call-fitting false all i k k' few l l' c fits =
    omega
    (arith, fits, power (k - (array_at all c.id).row_bits) (omega arith), power (k' - (array_at all c.id).column_bits) (omega arith))
call-fitting true all i k k' few l l' c fits =
    omega
    (arith, fits, power (k - (array_at all c.id).row_bits) (omega arith), power (k' - (array_at all c.id).column_bits) (omega arith))

array-fitting : (scaled : Bool) (all : List Array) (i k k' : ℕ) (entries : Entries) → i ≤ 1024 → k ≤ 30 → k' ≤ 30 →
    EntriesFit blocks blocks all i k k' entries → Each Fitting (opening_record k k' entries ∷ entry_records scaled entries)
array-fitting scaled all i k k' (cells list) few l l' fits =
    (omega arith, each_map (CellFits k k') Fitting cell_record (cell-fitting k k' l l') list fits)
array-fitting scaled all i k k' (calls list) few l l' fits =
    (omega arith, each_map (CallFits blocks blocks all i k k') Fitting (call_record scaled) (call-fitting scaled all i k k' few l l') list fits)

-- ---- well_formed arrays

module _ (n n' : ℕ) (all : List Array) (formed : WellFormed blocks blocks n n' all) where
  -- the array behind those that are done has their number
  pub fits-between : (done todo : List Array) (array : Array) → all ≡ done ++ (array ∷ todo) →
      ArrayFits blocks blocks all n n' (length done) array
  fits-between done todo array e =
      subst (ArrayFits blocks blocks all n n' (length done))
      (ap (λ (l : List Array). array_at l (length done)) e ∙ get_or-append_seam done array todo _)
      (formed.arrays_fit (length done) (omega (arith, ap length e, length-append done (array ∷ todo))))

  arrays-fitting : (scaled : Bool) → length all ≤ 1024 → (done todo : List Array) → all ≡ done ++ todo →
      Each Fitting (arrays_records scaled todo)
  unfolding flat_map
  arrays-fitting scaled few done [] e = tt
  arrays-fitting scaled few done (array ∷ todo) e =
      let fits : ArrayFits blocks blocks all n n' (length done) array = fits-between done todo array e in
      each_append Fitting (array_records scaled array) (arrays_records scaled todo)
      (array-fitting scaled all (length done) array.row_bits array.column_bits array.entries
      (omega (arith, ap length e, length-append done (array ∷ todo)))
      (omega (arith, fits.rows_at_most, formed.rows_at_most_30))
      (omega (arith, fits.columns_at_most, formed.columns_at_most_30))
      fits.entries_fit)
      (arrays-fitting scaled few (done ++ (array ∷ [])) todo (e ∙ sym (append_snoc done array todo)))

  head-fitting : (scaled : Bool) → Fitting (head_record scaled n n')
  head-fitting false = omega (arith, formed.rows_at_most_30, formed.columns_at_most_30)
  head-fitting true = omega (arith, formed.rows_at_most_30, formed.columns_at_most_30)

  pub key-fitting : (scaled : Bool) → length all ≤ 1024 → Each Fitting (key_records scaled n n' all)
  key-fitting scaled few = (
    head-fitting scaled,
    each_append Fitting (arrays_records scaled all) (Record.End ∷ []) (arrays-fitting scaled few [] all refl) (tt, tt),
  )
