-- The records of some arrays, moved, are those of the same arrays in the other edition, and their lengths.
use Prim.Native.Nat.{ℕ, ◌+◌, ◌*◌}
use mathlib.Core.Bool.{Bool, true, false, not}
use mathlib.Core.List.{flat_map, List, [], ◌∷◌, ◌++◌, map, map-append}
use mathlib.Core.Path.{◌≡◌, refl, sym, ap, ap₂, ◌∙◌}
use native.Mathlib.Omega.{arith}
use lib.ListN.{length, length-append}
use Rattle.records.specs.Kinds.{encoded, bytes_of_all}
use Rattle.records.specs.declared.Record.{Record}
use Rattle.arrays.specs.Arrays.{Call, Entries, cells, calls, Array}
use Rattle.arrays.specs.Totals.{calls_in, total_of}
use Rattle.arrays.specs.WellFormed.{Each}
use Rattle.arrays.proofs.EachElement.{each_all}
use Rattle.key.specs.Encoding.{cell_record, call_record, opening_record, entry_records, head_record, array_records, arrays_records, key_records, key_bytes, FactorIn, EntriesIn, InEdition}
use Rattle.key.proofs.JoinedLists.{flat_map-append}
use Rattle.editions.specs.Move.{moved_record}

-- ---- the records

head-moved : (scaled : Bool) (n n' : ℕ) → moved_record (head_record scaled n n') ≡ head_record (not scaled) n n'
head-moved false n n' = refl
head-moved true n n' = refl

opening-moved : (k k' : ℕ) (entries : Entries) → moved_record (opening_record k k' entries) ≡ opening_record k k' entries
opening-moved k k' (cells list) = refl
opening-moved k k' (calls list) = refl

call-moved : (scaled : Bool) (c : Call) → FactorIn scaled c.factor → moved_record (call_record scaled c) ≡ call_record (not scaled) c
call-moved false c one =
    ap (λ (factor : ℕ). Record.ScaledCall (record { id = c.id; down = c.down; right = c.right; factor = factor })) (sym one)
call-moved true c any = refl

all_moved : {A : Type 0} (P : A → Type 0) (item other : A → Record) → ((x : A) → P x → moved_record (item x) ≡ other x) →
    (list : List A) → Each P list → map moved_record (map item list) ≡ map other list
all_moved P item other one [] each = refl
all_moved P item other one (x ∷ list) each = ap₂ ◌∷◌ (one x each.0) (all_moved P item other one list each.1)

entries-moved : (scaled : Bool) (entries : Entries) → EntriesIn scaled entries →
    map moved_record (entry_records scaled entries) ≡ entry_records (not scaled) entries
entries-moved scaled (cells list) written =
    all_moved (λ c. Unit {0}) cell_record cell_record (λ c any. refl) list (each_all (λ c. Unit {0}) (λ c. tt) list)
entries-moved scaled (calls list) written =
    all_moved (λ c. FactorIn scaled c.factor) (call_record scaled) (call_record (not scaled)) (call-moved scaled) list written

arrays-moved : (scaled : Bool) (arrays : List Array) → InEdition scaled arrays →
    map moved_record (arrays_records scaled arrays) ≡ arrays_records (not scaled) arrays
unfolding flat_map
arrays-moved scaled [] written = refl
arrays-moved scaled (array ∷ arrays) written =
    map-append moved_record (array_records scaled array) (arrays_records scaled arrays)
    ∙ ap₂ ◌++◌
    (ap₂ ◌∷◌ (opening-moved array.row_bits array.column_bits array.entries) (entries-moved scaled array.entries written.0))
    (arrays-moved scaled arrays written.1)

pub key-moved : (scaled : Bool) (n n' : ℕ) (arrays : List Array) → InEdition scaled arrays →
    map moved_record (key_records scaled n n' arrays) ≡ key_records (not scaled) n n' arrays
key-moved scaled n n' arrays written =
    ap₂ ◌∷◌ (head-moved scaled n n')
    (map-append moved_record (arrays_records scaled arrays) (Record.End ∷ [])
    ∙ ap (λ (records : List Record). records ++ (Record.End ∷ [])) (arrays-moved scaled arrays written))

-- ---- their lengths: in edition 2 a call has four bytes more

calls-longer : (list : List Call) →
    length (bytes_of_all (map (call_record true) list)) ≡ length (bytes_of_all (map (call_record false) list)) + 4 * length list
unfolding flat_map
calls-longer [] = refl
calls-longer (c ∷ list) =
    omega (
      arith,
      calls-longer list,
      length-append (encoded (call_record true c)) (bytes_of_all (map (call_record true) list)),
      length-append (encoded (call_record false c)) (bytes_of_all (map (call_record false) list)),
    )

entries-longer : (entries : Entries) →
    length (bytes_of_all (entry_records true entries)) ≡ length (bytes_of_all (entry_records false entries)) + 4 * calls_in entries
entries-longer (cells list) = omega arith
entries-longer (calls list) = calls-longer list

-- the length of two lists of records, one behind the other
lengths : (records more : List Record) → length (bytes_of_all (records ++ more)) ≡ length (bytes_of_all records) + length (bytes_of_all more)
lengths records more = ap length (flat_map-append encoded records more) ∙ length-append (bytes_of_all records) (bytes_of_all more)

array-longer : (k k' : ℕ) (entries : Entries) →
    length (bytes_of_all (opening_record k k' entries ∷ entry_records true entries)) ≡
    length (bytes_of_all (opening_record k k' entries ∷ entry_records false entries)) + 4 * calls_in entries
unfolding flat_map
array-longer k k' entries =
    omega (
      arith,
      entries-longer entries,
      length-append (encoded (opening_record k k' entries)) (bytes_of_all (entry_records true entries)),
      length-append (encoded (opening_record k k' entries)) (bytes_of_all (entry_records false entries)),
    )

arrays-longer : (arrays : List Array) →
    length (bytes_of_all (arrays_records true arrays)) ≡ length (bytes_of_all (arrays_records false arrays)) + 4 * total_of calls_in arrays
unfolding flat_map
arrays-longer [] = refl
arrays-longer (array ∷ arrays) =
    omega (
      arith,
      array-longer array.row_bits array.column_bits array.entries,
      arrays-longer arrays,
      lengths (array_records true array) (arrays_records true arrays),
      lengths (array_records false array) (arrays_records false arrays),
    )

pub key-longer : (n n' : ℕ) (arrays : List Array) →
    length (key_bytes true n n' arrays) ≡ length (key_bytes false n n' arrays) + 4 * total_of calls_in arrays
unfolding flat_map
key-longer n n' arrays =
    omega (
      arith,
      arrays-longer arrays,
      lengths (arrays_records true arrays) (Record.End ∷ []),
      lengths (arrays_records false arrays) (Record.End ∷ []),
    )
