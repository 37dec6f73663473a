-- The records of some arrays in either edition: the arrays that they are, and what they open.
use Prim.Native.Nat.{ℕ}
use mathlib.Core.Bool.{Bool, true, false}
use mathlib.Core.List.{flat_map, List, [], ◌∷◌, ◌++◌, map, append_assoc, append-nil}
use mathlib.Core.Path.{◌≡◌, refl, sym, ap, ap₂, ◌∙◌}
use lib.ListN.{length}
use Rattle.records.specs.Inner.{call_size}
use Rattle.records.specs.Kinds.{encoded}
use Rattle.records.specs.declared.Record.{Record}
use Rattle.arrays.specs.Arrays.{Cell, Call, Entries, cells, calls, Array}
use Rattle.arrays.specs.WellFormed.{Each}
use Rattle.arrays.proofs.EachElement.{each_all}
use Rattle.key.specs.Before.{opening_in, opened, head_of, is_scaled}
use Rattle.key.specs.Encoding.{cell_record, call_record, opening_record, entry_records, head_record, array_records, arrays_records, key_records, FactorIn, EntriesIn, InEdition}
use Rattle.key.specs.KeyArrays.{cells_first, calls_first, arrays_of}
use Rattle.rules.specs.declared.Opening.{Opening}
use Rattle.key.proofs.JoinedLists.{flat_map-append}

-- ---- the head and a call

pub head-shape : (scaled : Bool) (n n' : ℕ) (rest : List Record) → head_of (head_record scaled n n' ∷ rest) ≡ record { rows = n; columns = n' }
head-shape false n n' rest = refl
head-shape true n n' rest = refl

pub head-edition : (scaled : Bool) (n n' : ℕ) (rest : List Record) → is_scaled (head_record scaled n n' ∷ rest) ≡ scaled
head-edition false n n' rest = refl
head-edition true n n' rest = refl

pub head-length : (scaled : Bool) (n n' : ℕ) → length (encoded (head_record scaled n n')) ≡ 3
head-length false n n' = refl
head-length true n n' = refl

pub call_length : (scaled : Bool) (c : Call) → length (encoded (call_record scaled c)) ≡ call_size scaled
call_length false c = refl
call_length true c = refl

-- ---- the arrays back

-- what is taken from the front of some records, as long as it is there
first_taken : {A : Type 0} (P : A → Type 0) (item : A → Record) (taken : List Record → List A) →
    ((x : A) → P x → (rest : List Record) → taken (item x ∷ rest) ≡ x ∷ taken rest) →
    (list : List A) → Each P list → (rest : List Record) → taken rest ≡ [] → taken (map item list ++ rest) ≡ list
first_taken P item taken one [] each rest e = e
first_taken {A} P item taken one (x ∷ list) each rest e =
    one x each.0 (map item list ++ rest) ∙ ap (λ (l : List A). x ∷ l) (first_taken P item taken one list each.1 rest e)

-- records that begin no array
passed_over : {A : Type 0} (item : A → Record) → ((x : A) (rest : List Record) → arrays_of (item x ∷ rest) ≡ arrays_of rest) →
    (list : List A) (rest : List Record) → arrays_of (map item list ++ rest) ≡ arrays_of rest
passed_over item over [] rest = refl
passed_over item over (x ∷ list) rest = over x (map item list ++ rest) ∙ passed_over item over list rest

-- an array by its bits and entries
abbrev pub array_with : ℕ → ℕ → Entries → Array
array_with k k' entries = record { row_bits = k; column_bits = k'; entries = entries }

-- a call in front of some records
call-first : (scaled : Bool) (c : Call) → FactorIn scaled c.factor → (rest : List Record) →
    calls_first (call_record scaled c ∷ rest) ≡ c ∷ calls_first rest
unfolding calls_first
call-first false c one rest =
    ap (λ (factor : ℕ). record { id = c.id; down = c.down; right = c.right; factor = factor } ∷ calls_first rest) (sym one)
call-first true c any rest = refl

call-over : (scaled : Bool) (c : Call) (rest : List Record) → arrays_of (call_record scaled c ∷ rest) ≡ arrays_of rest
unfolding arrays_of
call-over false c rest = refl
call-over true c rest = refl

-- an array in front of records that begin with no entry
array-first : (scaled : Bool) (k k' : ℕ) (entries : Entries) → EntriesIn scaled entries → (rest : List Record) →
    cells_first rest ≡ [] → calls_first rest ≡ [] →
    arrays_of ((opening_record k k' entries ∷ entry_records scaled entries) ++ rest) ≡ array_with k k' entries ∷ arrays_of rest
unfolding arrays_of cells_first
array-first scaled k k' (cells list) written rest e f =
    ap₂ (λ (l : List Cell) (arrays : List Array). array_with k k' (cells l) ∷ arrays)
    (first_taken (λ c. Unit {0}) cell_record cells_first (λ c any records. refl) list (each_all (λ c. Unit {0}) (λ c. tt) list) rest e)
    (passed_over cell_record (λ c records. refl) list rest)
array-first scaled k k' (calls list) written rest e f =
    ap₂ (λ (l : List Call) (arrays : List Array). array_with k k' (calls l) ∷ arrays)
    (first_taken (λ c. FactorIn scaled c.factor) (call_record scaled) calls_first (call-first scaled) list written rest f)
    (passed_over (call_record scaled) (call-over scaled) list rest)

-- the records from an array's opening or from the end on
abbrev ending : Bool → List Array → List Record
ending scaled arrays = arrays_records scaled arrays ++ (Record.End ∷ [])

-- an opening is no entry, so that these begin with none
no-entry : (k k' : ℕ) (entries : Entries) (rest : List Record) →
    (cells_first (opening_record k k' entries ∷ rest) ≡ []) × (calls_first (opening_record k k' entries ∷ rest) ≡ [])
unfolding cells_first calls_first
no-entry k k' (cells list) rest = (refl, refl)
no-entry k k' (calls list) rest = (refl, refl)

ending-no-entry : (scaled : Bool) (arrays : List Array) →
    (cells_first (ending scaled arrays) ≡ []) × (calls_first (ending scaled arrays) ≡ [])
unfolding cells_first calls_first flat_map
ending-no-entry scaled [] = (refl, refl)
ending-no-entry scaled (array ∷ arrays) =
    no-entry array.row_bits array.column_bits array.entries
    ((entry_records scaled array.entries ++ arrays_records scaled arrays) ++ (Record.End ∷ []))

ending-back : (scaled : Bool) (arrays : List Array) → InEdition scaled arrays → arrays_of (ending scaled arrays) ≡ arrays
unfolding arrays_of flat_map
ending-back scaled [] written = refl
ending-back scaled (array ∷ arrays) written =
    ap arrays_of (append_assoc (array_records scaled array) (arrays_records scaled arrays) (Record.End ∷ []))
    ∙ array-first scaled array.row_bits array.column_bits array.entries written.0 (ending scaled arrays)
    (ending-no-entry scaled arrays).0 (ending-no-entry scaled arrays).1
    ∙ ap (λ (l : List Array). array ∷ l) (ending-back scaled arrays written.1)

pub arrays-back : (scaled : Bool) (n n' : ℕ) (arrays : List Array) → InEdition scaled arrays →
    arrays_of (key_records scaled n n' arrays) ≡ arrays
unfolding arrays_of
arrays-back false n n' arrays written = ending-back false arrays written
arrays-back true n n' arrays written = ending-back true arrays written

-- ---- what they open

-- the kind of the record that opens an array with these entries
abbrev pub entries_kind : Entries → ℕ
entries_kind (cells list) = 0x02
entries_kind (calls list) = 0x03

-- an array's opening
abbrev pub opening_of : Array → Opening
opening_of array =
    record { kind = entries_kind array.entries; shape = record { rows = array.row_bits; columns = array.column_bits } }

-- records that open none
unopened : {A : Type 0} (item : A → Record) → ((x : A) → opening_in (item x) ≡ []) → (list : List A) → opened (map item list) ≡ []
unfolding flat_map
unopened item none [] = refl
unopened item none (x ∷ list) = ap₂ ◌++◌ (none x) (unopened item none list)

pub call-unopened : (scaled : Bool) (c : Call) → opening_in (call_record scaled c) ≡ []
call-unopened false c = refl
call-unopened true c = refl

pub head-unopened : (scaled : Bool) (n n' : ℕ) → opening_in (head_record scaled n n') ≡ []
head-unopened false n n' = refl
head-unopened true n n' = refl

opened-entries : (scaled : Bool) (entries : Entries) → opened (entry_records scaled entries) ≡ []
opened-entries scaled (cells list) = unopened cell_record (λ c. refl) list
opened-entries scaled (calls list) = unopened (call_record scaled) (call-unopened scaled) list

opening-in : (k k' : ℕ) (entries : Entries) → opening_in (opening_record k k' entries) ≡ opening_of (array_with k k' entries) ∷ []
opening-in k k' (cells list) = refl
opening-in k k' (calls list) = refl

-- the records that open an array: its opening alone, and with its entries behind it
module _ (scaled : Bool) (array : Array) where
  first : opening_in (opening_record array.row_bits array.column_bits array.entries) ≡ opening_of array ∷ []
  first = opening-in array.row_bits array.column_bits array.entries

  pub opened-opening :
      opened (opening_record array.row_bits array.column_bits array.entries ∷ []) ≡ opening_of array ∷ []
  unfolding flat_map
  opened-opening = ap (λ (l : List Opening). l ++ []) first

  pub opened-array : opened (array_records scaled array) ≡ opening_of array ∷ []
  unfolding flat_map
  opened-array = ap₂ ◌++◌ first (opened-entries scaled array.entries)

pub opened-arrays : (scaled : Bool) (arrays : List Array) → opened (arrays_records scaled arrays) ≡ map opening_of arrays
unfolding flat_map
opened-arrays scaled [] = refl
opened-arrays scaled (array ∷ arrays) =
    flat_map-append opening_in (array_records scaled array) (arrays_records scaled arrays)
    ∙ ap₂ ◌++◌ (opened-array scaled array) (opened-arrays scaled arrays)

-- a head opens none
pub opened-behind : (scaled : Bool) (n n' : ℕ) (records : List Record) → opened (head_record scaled n n' ∷ records) ≡ opened records
unfolding flat_map
opened-behind scaled n n' records = ap (λ (os : List Opening). os ++ opened records) (head-unopened scaled n n')

pub opened-key : (scaled : Bool) (n n' : ℕ) (arrays : List Array) → opened (key_records scaled n n' arrays) ≡ map opening_of arrays
unfolding flat_map
opened-key scaled n n' arrays =
    opened-behind scaled n n' (arrays_records scaled arrays ++ (Record.End ∷ []))
    ∙ flat_map-append opening_in (arrays_records scaled arrays) (Record.End ∷ []) ∙ append-nil (opened (arrays_records scaled arrays))
    ∙ opened-arrays scaled arrays
