-- Where records and arrays begin that lie one behind the other.
use Prim.Native.Nat.{ℕ, suc, ◌+◌}
use mathlib.Core.Bool.{Bool, true, false}
use mathlib.Core.List.{flat_map, List, [], ◌∷◌, ◌++◌, map, append_assoc, append-nil}
use mathlib.Core.Path.{◌≡◌, refl, sym, ap, ◌∙◌}
use native.Mathlib.Omega.{arith}
use lib.ListN.{length, get_or, length-append}
use Rattle.records.specs.Kinds.{encoded, bytes_of_all}
use Rattle.records.specs.declared.Record.{Record}
use Rattle.arrays.specs.Arrays.{Entries, cells, calls, Array}
use Rattle.key.specs.Before.{opening_in}
use Rattle.key.specs.Encoding.{cell_record, call_record, opening_record, entry_records, head_record, array_records, arrays_records}
use Rattle.key.specs.Index.{starts_in}
use Rattle.key.specs.Reading.{Located}
use Rattle.rules.specs.declared.Opening.{Opening}
use Rattle.key.proofs.Encodings.{call-unopened}
use Rattle.key.proofs.JoinedLists.{flat_map-append}

-- the offset behind some records that begin at an offset
abbrev pub offset_behind : ℕ → List Record → ℕ
offset_behind at records = at + length (bytes_of_all records)

pub behind-cons : (at : ℕ) (r : Record) (records : List Record) → offset_behind (at + length (encoded r)) records ≡ offset_behind at (r ∷ records)
unfolding flat_map
behind-cons at r records = omega (arith, length-append (encoded r) (bytes_of_all records))

pub behind-append : (at : ℕ) (records more : List Record) → offset_behind (offset_behind at records) more ≡ offset_behind at (records ++ more)
behind-append at records more = omega (arith, ap length (flat_map-append encoded records more), length-append (bytes_of_all records) (bytes_of_all more))

-- some records that begin at an offset, each with its own
abbrev pub located_from : ℕ → List Record → List Located
located_from at [] = []
located_from at (r ∷ records) =
    record { item = r; at = at; next = at + length (encoded r) } ∷ located_from (at + length (encoded r)) records

-- the offsets of the openings among them
abbrev pub starts_from : ℕ → List Record → List ℕ
starts_from at records = starts_in (located_from at records)

-- ---- where arrays begin

-- where each of some arrays begins, the first at an offset
abbrev pub array_starts : Bool → ℕ → List Array → List ℕ
array_starts scaled at [] = []
array_starts scaled at (array ∷ arrays) = at ∷ array_starts scaled (offset_behind at (array_records scaled array)) arrays

-- the offset behind the first of some arrays is where the next begins, or the offset behind them all
pub first-bound : (scaled : Bool) (at : ℕ) (records : List Record) (arrays : List Array) →
    offset_behind at records ≡
    get_or (array_starts scaled (offset_behind at records) arrays ++ (offset_behind at (records ++ arrays_records scaled arrays) ∷ [])) 0 0
unfolding flat_map
first-bound scaled at records [] = ap (offset_behind at) (sym (append-nil records))
first-bound scaled at records (array ∷ arrays) = refl

pub starts-length : (scaled : Bool) (at : ℕ) (arrays : List Array) → length (array_starts scaled at arrays) ≡ length arrays
starts-length scaled at [] = refl
starts-length scaled at (array ∷ arrays) = ap suc (starts-length scaled (offset_behind at (array_records scaled array)) arrays)

-- records that open no array
starts_none : {A : Type 0} (item : A → Record) → ((x : A) → opening_in (item x) ≡ []) → (at : ℕ) (list : List A) (more : List Record) →
    starts_from at (map item list ++ more) ≡ starts_from (offset_behind at (map item list)) more
unfolding flat_map
starts_none item none at [] more = ap (λ (m : ℕ). starts_from m more) (omega arith)
starts_none item none at (x ∷ list) more =
    ap (λ (os : List Opening). map (λ (o : Opening). at) os ++ starts_from (at + length (encoded (item x))) (map item list ++ more)) (none x)
    ∙ starts_none item none (at + length (encoded (item x))) list more
    ∙ ap (λ (m : ℕ). starts_from m more) (behind-cons at (item x) (map item list))

-- an array's records open one, where they begin
starts-array : (scaled : Bool) (at k k' : ℕ) (entries : Entries) (more : List Record) →
    starts_from at ((opening_record k k' entries ∷ entry_records scaled entries) ++ more) ≡
    at ∷ starts_from (offset_behind at (opening_record k k' entries ∷ entry_records scaled entries)) more
unfolding flat_map
starts-array scaled at k k' (cells list) more =
    ap (λ (s : List ℕ). at ∷ s)
    (starts_none cell_record (λ c. refl) (at + 3) list more
    ∙ ap (λ (m : ℕ). starts_from m more) (behind-cons at (opening_record k k' (cells list)) (map cell_record list)))
starts-array scaled at k k' (calls list) more =
    ap (λ (s : List ℕ). at ∷ s)
    (starts_none (call_record scaled) (call-unopened scaled) (at + 3) list more
    ∙ ap (λ (m : ℕ). starts_from m more) (behind-cons at (opening_record k k' (calls list)) (map (call_record scaled) list)))

pub starts-arrays : (scaled : Bool) (at : ℕ) (arrays : List Array) → starts_from at (arrays_records scaled arrays ++ (Record.End ∷ [])) ≡ array_starts scaled at arrays
unfolding flat_map
starts-arrays scaled at [] = refl
starts-arrays scaled at (array ∷ arrays) =
    ap (starts_from at) (append_assoc (array_records scaled array) (arrays_records scaled arrays) (Record.End ∷ []))
    ∙ starts-array scaled at array.row_bits array.column_bits array.entries (arrays_records scaled arrays ++ (Record.End ∷ []))
    ∙ ap (λ (s : List ℕ). at ∷ s) (starts-arrays scaled (offset_behind at (array_records scaled array)) arrays)

-- a head opens no array, and they begin behind it
pub starts-behind : (scaled : Bool) (n n' : ℕ) (records : List Record) →
    starts_from 0 (head_record scaled n n' ∷ records) ≡ starts_from 3 records
unfolding flat_map
starts-behind false n n' records = refl
starts-behind true n n' records = refl
