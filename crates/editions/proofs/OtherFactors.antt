-- Where the calls lie whose factor isn't 1, and that the arrays of a key without them can be written in the other edition.
use Prim.Native.Nat.{ℕ, suc, ◌+◌, ◌≤◌}
use mathlib.Core.Bool.{Bool, true, false, cond, not}
use mathlib.Core.List.{flat_map, List, [], ◌∷◌, ◌++◌, map}
use mathlib.Core.Path.{◌≡◌, refl, ap, ◌∙◌}
use native.Mathlib.Omega.{arith}
use borrow.Author.Tests.{eqb-true, eq-eqb, not-false}
use lib.ListN.{length, get_or}
use Rattle.records.specs.Kinds.{encoded}
use Rattle.records.specs.declared.Record.{Record}
use Rattle.arrays.specs.Arrays.{Call, Entries, cells, calls, Array}
use Rattle.arrays.specs.WellFormed.{Each}
use Rattle.arrays.proofs.EachElement.{each_all, each-apart, each_append, each_map, each-mapped}
use Rattle.key.specs.Encoding.{cell_record, call_record, opening_record, entry_records, head_record, array_records, arrays_records, key_records, FactorIn, EntriesIn, InEdition}
use Rattle.key.specs.Index.{Runs}
use Rattle.key.specs.Reading.{records_in}
use Rattle.key.proofs.Offsets.{located_from}
use Rattle.key.proofs.RecordRuns.{read-runs}
use Rattle.editions.specs.Move.{has_other_factor, other_factors_in, other_factors}
use Rattle.editions.proofs.RecordsToEnd.{taken-inside}

-- ---- their offsets

-- the offset of a record, if it is such a call
abbrev at_other : Bool → ℕ → List ℕ
at_other other at = cond other (at ∷ []) []

-- the offsets of such calls among some records that begin at an offset
abbrev pub other_factors_from : ℕ → List Record → List ℕ
other_factors_from at records = other_factors_in (located_from at records)

module _ (key : List ℕ) where
  -- they lie where the records lie that are read
  pub factors-lie : other_factors key ≡ other_factors_from 0 (records_in key)
  factors-lie = ap other_factors_in (read-runs key (suc (length key)) 0).1

  -- and so in the key
  pub factor-inside : (from : ℕ) (records : List Record) → Runs key from records (length key) →
      length key ≤ get_or (other_factors_from from records) 0 (length key) → other_factors_from from records ≡ []
  unfolding flat_map
  factor-inside from [] runs l = refl
  factor-inside from (r ∷ records) runs l =
      go (has_other_factor r) l (factor-inside (from + length (encoded r)) records runs.1)
    where
      later : List ℕ
      later = other_factors_from (from + length (encoded r)) records

      go : (other : Bool) → length key ≤ get_or (at_other other from ++ later) 0 (length key) →
          (length key ≤ get_or later 0 (length key) → later ≡ []) → at_other other from ++ later ≡ []
      go true l none = absurd (omega (arith, taken-inside key from r _ runs.0))
      go false l none = none l

-- ---- records without such calls

abbrev pub Unscaled : Record → Type 0
Unscaled r = has_other_factor r ≡ false

pub none_other : (at : ℕ) (records : List Record) → other_factors_from at records ≡ [] → Each Unscaled records
unfolding flat_map
none_other at [] none = tt
none_other at (r ∷ records) none = go (has_other_factor r) refl none (none_other (at + length (encoded r)) records)
  where
    later : List ℕ
    later = other_factors_from (at + length (encoded r)) records

    go : (other : Bool) → has_other_factor r ≡ other → at_other other at ++ later ≡ [] →
        (later ≡ [] → Each Unscaled records) → Unscaled r × Each Unscaled records
    go true e none rest = let o : ◌≡◌ {A = ℕ} 1 0 = cc in absurd (omega arith)
    go false e none rest = (e, rest none)

pub no-factors : (at : ℕ) (records : List Record) → Each Unscaled records → other_factors_from at records ≡ []
unfolding flat_map
no-factors at [] each = refl
no-factors at (r ∷ records) each =
    ap (λ (other : Bool). at_other other at ++ other_factors_from (at + length (encoded r)) records) each.0
    ∙ no-factors (at + length (encoded r)) records each.1

-- ---- those of a key: its arrays can be written in the other edition

call-written : (scaled : Bool) (c : Call) → Unscaled (call_record scaled c) → FactorIn (not scaled) c.factor
call-written false c unscaled = tt
call-written true c unscaled = eqb-true c.factor 1 (not-false _ unscaled)

call-unscaled : (scaled : Bool) (c : Call) → FactorIn (not scaled) c.factor → Unscaled (call_record scaled c)
call-unscaled false c written = refl
call-unscaled true c written = ap not (eq-eqb c.factor 1 written)

opening-unscaled : (k k' : ℕ) (entries : Entries) → Unscaled (opening_record k k' entries)
opening-unscaled k k' (cells list) = refl
opening-unscaled k k' (calls list) = refl

head-unscaled : (scaled : Bool) (n n' : ℕ) → Unscaled (head_record scaled n n')
head-unscaled false n n' = refl
head-unscaled true n n' = refl

calls-written : (scaled : Bool) (list : List Call) → Each Unscaled (map (call_record scaled) list) →
    Each (λ call. FactorIn (not scaled) call.factor) list
calls-written scaled [] each = tt
calls-written scaled (c ∷ list) each = (call-written scaled c each.0, calls-written scaled list each.1)

entries-written : (scaled : Bool) (entries : Entries) → Each Unscaled (entry_records scaled entries) → EntriesIn (not scaled) entries
entries-written scaled (cells list) each = tt
entries-written scaled (calls list) each = calls-written scaled list each

entries-unscaled : (scaled : Bool) (entries : Entries) → EntriesIn (not scaled) entries → Each Unscaled (entry_records scaled entries)
entries-unscaled scaled (cells list) written = each-mapped Unscaled cell_record (λ c. refl) list
entries-unscaled scaled (calls list) written =
    each_map (λ call. FactorIn (not scaled) call.factor) Unscaled (call_record scaled) (call-unscaled scaled) list written

arrays-written : (scaled : Bool) (arrays : List Array) → Each Unscaled (arrays_records scaled arrays) → InEdition (not scaled) arrays
unfolding flat_map
arrays-written scaled [] each = tt
arrays-written scaled (array ∷ arrays) each =
    let apart = each-apart Unscaled (array_records scaled array) (arrays_records scaled arrays) each in
    (entries-written scaled array.entries apart.0.1, arrays-written scaled arrays apart.1)

arrays-unscaled : (scaled : Bool) (arrays : List Array) → InEdition (not scaled) arrays → Each Unscaled (arrays_records scaled arrays)
unfolding flat_map
arrays-unscaled scaled [] written = tt
arrays-unscaled scaled (array ∷ arrays) written =
    each_append Unscaled (array_records scaled array) (arrays_records scaled arrays)
    (opening-unscaled array.row_bits array.column_bits array.entries, entries-unscaled scaled array.entries written.0)
    (arrays-unscaled scaled arrays written.1)

module _ (scaled : Bool) (n n' : ℕ) (arrays : List Array) where
  pub key-written : Each Unscaled (key_records scaled n n' arrays) → InEdition (not scaled) arrays
  key-written each = arrays-written scaled arrays (each-apart Unscaled (arrays_records scaled arrays) (Record.End ∷ []) each.1).0

  pub key-unscaled : InEdition (not scaled) arrays → Each Unscaled (key_records scaled n n' arrays)
  key-unscaled written = (
    head-unscaled scaled n n',
    each_append Unscaled (arrays_records scaled arrays) (Record.End ∷ []) (arrays-unscaled scaled arrays written) (refl, tt),
  )

-- every array can be written in edition 2
pub scaled-written : (arrays : List Array) → InEdition true arrays
scaled-written arrays = each_all (λ array. EntriesIn true array.entries) (λ array. entries array.entries) arrays
  where
    entries : (e : Entries) → EntriesIn true e
    entries (cells list) = tt
    entries (calls list) = each_all (λ call. Unit {0}) (λ call. tt) list
