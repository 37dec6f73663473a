-- How many arrays, cells and calls the records of some arrays are.
use Prim.Native.Nat.{ℕ, ◌+◌}
use mathlib.Core.Bool.{Bool, true, false}
use mathlib.Core.List.{flat_map, List, [], ◌∷◌, ◌++◌, map}
use mathlib.Core.Path.{◌≡◌, refl, ap, ap₂, ◌∙◌}
use native.Mathlib.Nat.{zero-add}
use native.Mathlib.Omega.{arith}
use lib.Dec.{eqb}
use lib.ListN.{length, length-map}
use Rattle.records.specs.Kinds.{kind_of}
use Rattle.records.specs.declared.Record.{Record}
use Rattle.arrays.specs.Arrays.{Call, Entries, cells, calls, Array}
use Rattle.arrays.specs.Totals.{cells_in, calls_in, total_of}
use Rattle.key.specs.Accepted.{array_counts}
use Rattle.key.specs.Before.{count_of, call_count}
use Rattle.key.specs.Check.{counts_of}
use Rattle.key.specs.Encoding.{cell_record, call_record, opening_record, entry_records, array_records, arrays_records, key_records}
use Rattle.key.proofs.Encodings.{head-shape, opening_of, opened-key}
use Rattle.key.proofs.RecordsBefore.{count-append}

-- records that are all of a kind, and records none of which is
module _ {A : Type 0} (kind : ℕ) (item : A → Record) where
  counted : ((x : A) → eqb (kind_of (item x)) kind ≡ true) → (list : List A) → count_of kind (map item list) ≡ length list
  unfolding count_of
  counted are [] = refl
  counted are (x ∷ list) = rw (are x) (omega (arith, counted are list))

  uncounted : ((x : A) → eqb (kind_of (item x)) kind ≡ false) → (list : List A) → count_of kind (map item list) ≡ 0
  unfolding count_of
  uncounted are [] = refl
  uncounted are (x ∷ list) = rw (are x) (omega (arith, uncounted are list))

-- a number that is the count of a kind for each array is it for all of them
counted-arrays : (scaled : Bool) (count : List Record → ℕ) → count [] ≡ 0 →
    ((records more : List Record) → count (records ++ more) ≡ count records + count more) → (number : Entries → ℕ) →
    ((k k' : ℕ) (entries : Entries) → count (opening_record k k' entries ∷ entry_records scaled entries) ≡ number entries) →
    (arrays : List Array) → count (arrays_records scaled arrays) ≡ total_of number arrays
unfolding flat_map
counted-arrays scaled count none append number are [] = none
counted-arrays scaled count none append number are (array ∷ arrays) =
    append (array_records scaled array) (arrays_records scaled arrays)
    ∙ ap₂ ◌+◌ (are array.row_bits array.column_bits array.entries) (counted-arrays scaled count none append number are arrays)

calls-append : (records more : List Record) → call_count (records ++ more) ≡ call_count records + call_count more
calls-append records more = omega (arith, count-append 0x05 records more, count-append 0x08 records more)

call-no-cell : (scaled : Bool) (c : Call) → eqb (kind_of (call_record scaled c)) 0x04 ≡ false
call-no-cell false c = refl
call-no-cell true c = refl

cells-counted : (scaled : Bool) (k k' : ℕ) (entries : Entries) →
    count_of 0x04 (opening_record k k' entries ∷ entry_records scaled entries) ≡ cells_in entries
unfolding count_of
cells-counted scaled k k' (cells list) =
    zero-add (count_of 0x04 (map cell_record list)) ∙ counted 0x04 cell_record (λ c. refl) list
cells-counted scaled k k' (calls list) =
    zero-add (count_of 0x04 (map (call_record scaled) list)) ∙ uncounted 0x04 (call_record scaled) (call-no-cell scaled) list

calls-counted : (scaled : Bool) (k k' : ℕ) (entries : Entries) →
    call_count (opening_record k k' entries ∷ entry_records scaled entries) ≡ calls_in entries
unfolding count_of
calls-counted scaled k k' (cells list) =
    omega (arith, uncounted 0x05 cell_record (λ c. refl) list, uncounted 0x08 cell_record (λ c. refl) list)
calls-counted false k k' (calls list) =
    omega (arith, counted 0x05 (call_record false) (λ c. refl) list, uncounted 0x08 (call_record false) (λ c. refl) list)
calls-counted true k k' (calls list) =
    omega (arith, uncounted 0x05 (call_record true) (λ c. refl) list, counted 0x08 (call_record true) (λ c. refl) list)

-- the head and the end are no cells and no calls
ends-uncounted : (scaled : Bool) (n n' : ℕ) (arrays : List Array) →
    (count_of 0x04 (key_records scaled n n' arrays) ≡ count_of 0x04 (arrays_records scaled arrays)) ×
    (call_count (key_records scaled n n' arrays) ≡ call_count (arrays_records scaled arrays))
unfolding count_of
ends-uncounted false n n' arrays =
    omega (arith, count-append 0x04 (arrays_records false arrays) (Record.End ∷ []), calls-append (arrays_records false arrays) (Record.End ∷ []))
ends-uncounted true n n' arrays =
    omega (arith, count-append 0x04 (arrays_records true arrays) (Record.End ∷ []), calls-append (arrays_records true arrays) (Record.End ∷ []))

pub counts-key : (scaled : Bool) (n n' : ℕ) (arrays : List Array) →
    counts_of (key_records scaled n n' arrays) ≡ array_counts n n' arrays
unfolding count_of
counts-key scaled n n' arrays =
    let head = head-shape scaled n n' (arrays_records scaled arrays ++ (Record.End ∷ [])) in
    λ i.
    record {
      arrays = (ap length (opened-key scaled n n' arrays) ∙ length-map arrays opening_of) i;
      cells =
          ((ends-uncounted scaled n n' arrays).0
          ∙ counted-arrays scaled (count_of 0x04) refl (count-append 0x04) cells_in (cells-counted scaled) arrays) i;
      calls =
          ((ends-uncounted scaled n n' arrays).1
          ∙ counted-arrays scaled call_count refl calls-append calls_in (calls-counted scaled) arrays) i;
      rows = (head i).rows;
      columns = (head i).columns;
    }
