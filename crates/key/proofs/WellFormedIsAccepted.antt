-- The key of well_formed arrays in either edition, the last of the head's shape, is accepted, and its arrays are those that it was
-- made of.
use Prim.Native.Nat.{ℕ, ◌≤◌}
use mathlib.Core.Bool.{Bool, true, false}
use mathlib.Core.List.{flat_map, List, [], ◌∷◌, ◌++◌}
use mathlib.Core.Path.{◌≡◌, refl, sym, ap, ◌∙◌}
use native.Mathlib.Omega.{arith}
use borrow.Author.Tests.{le-ltb}
use lib.ListN.{length, length-append}
use lib.Seq.{append_snoc}
use Rattle.refusal.specs.Outcome.{given}
use Rattle.records.specs.declared.Record.{Record}
use Rattle.arrays.specs.Arrays.{Array}
use Rattle.arrays.specs.Placing.{blocks}
use Rattle.arrays.specs.WellFormed.{Each, ArrayFits, WellFormed, LastOfShape}
use Rattle.key.specs.Accepted.{array_counts}
use Rattle.key.specs.Before.{is_scaled}
use Rattle.key.specs.Check.{judged, checked_key}
use Rattle.key.specs.Encoding.{head_record, opening_record, array_records, arrays_records, key_records, key_bytes, InEdition}
use Rattle.key.specs.KeyArrays.{arrays_of, key_arrays, key_scaled}
use Rattle.key.specs.Reading.{records_in}
use Rattle.key.proofs.ArraysBefore.{Past, past-append}
use Rattle.key.proofs.Encodings.{head-edition, head-shape, arrays-back, opened-opening, opened-array, opened-arrays, opened-behind}
use Rattle.key.proofs.KeepsRulesIsAccepted.{Keeping, keeping-append, keeping-accepted}
use Rattle.key.proofs.KeyCounts.{counts-key}
use Rattle.key.proofs.EndOrOnward.{Onward}
use Rattle.key.proofs.RecordsReadBack.{reading-laid, records-back}
use Rattle.key.proofs.WellFormedFitsWidths.{arrays-onward, fits-between, key-fitting}
use Rattle.key.proofs.WellFormedKeepsRules.{head-kept, opening-kept, end_kept, entries-kept}

past_head : (scaled : Bool) (n n' : ℕ) → Past scaled n n' [] (head_record scaled n n' ∷ [])
unfolding flat_map
past_head scaled n n' =
    record {
      some-record = omega arith;
      edition = head-edition scaled n n' [];
      head = head-shape scaled n n' [];
      openings = opened-behind scaled n n' [];
    }

module _ (scaled : Bool) (n n' : ℕ) (all : List Array) (formed : WellFormed blocks blocks n n' all) (few : length all ≤ 1024) where
  -- behind the records of the arrays that are done, those of the arrays to come keep their rules
  arrays-kept : (done todo : List Array) (before : List Record) → all ≡ done ++ todo → Past scaled n n' done before →
      Keeping before (arrays_records scaled todo)
  unfolding flat_map
  arrays-kept done [] before e past = tt
  arrays-kept done (array ∷ todo) before e past =
      let opening : Record = opening_record array.row_bits array.column_bits array.entries in
      let fits : ArrayFits blocks blocks all n n' (length done) array = fits-between n n' all formed done todo array e in
      let on : all ≡ (done ++ (array ∷ [])) ++ todo = e ∙ sym (append_snoc done array todo) in
      keeping-append before (array_records scaled array) (arrays_records scaled todo) (
        opening-kept scaled n n' array.row_bits array.column_bits array.entries done before past
            (omega (arith, ap length e, length-append done (array ∷ todo))) fits.rows_at_most fits.columns_at_most,
        entries-kept scaled n n' all done todo array.row_bits array.column_bits array.entries on (before ++ (opening ∷ []))
            (past-append scaled n n' before done (array ∷ []) (opening ∷ []) past (opened-opening scaled array)) fits.entries_fit,
      )
      (arrays-kept (done ++ (array ∷ [])) todo (before ++ array_records scaled array) on
      (past-append scaled n n' before done (array ∷ []) (array_records scaled array) past (opened-array scaled array)))

  past-arrays : Past scaled n n' all (head_record scaled n n' ∷ arrays_records scaled all)
  past-arrays = past-append scaled n n' (head_record scaled n n' ∷ []) [] all (arrays_records scaled all) (past_head scaled n n') (opened-arrays scaled all)

  key-kept : LastOfShape n n' all → Keeping [] (key_records scaled n n' all)
  key-kept last = (
    head-kept scaled n n' formed.rows_at_most_30 formed.columns_at_most_30,
    keeping-append (head_record scaled n n' ∷ []) (arrays_records scaled all) (Record.End ∷ [])
        (arrays-kept [] all (head_record scaled n n' ∷ []) refl (past_head scaled n n'))
        (end_kept scaled n n' all (head_record scaled n n' ∷ arrays_records scaled all) past-arrays last, tt),
  )

head-onward : (scaled : Bool) (n n' : ℕ) → Onward (head_record scaled n n')
head-onward false n n' = refl
head-onward true n n' = refl

key-onward : (scaled : Bool) (n n' : ℕ) (arrays : List Array) → Each Onward (head_record scaled n n' ∷ arrays_records scaled arrays)
key-onward scaled n n' arrays = (head-onward scaled n n', arrays-onward scaled arrays)

pub well-formed-accepted : (scaled : Bool) (n n' : ℕ) (arrays : List Array) → WellFormed blocks blocks n n' arrays → LastOfShape n n' arrays →
    length arrays ≤ 1024 → length (key_bytes scaled n n' arrays) ≤ 65536 →
    checked_key (key_bytes scaled n n' arrays) ≡ given (array_counts n n' arrays)
unfolding checked_key
well-formed-accepted scaled n n' arrays formed last few short =
    rw (le-ltb 65536 (length (key_bytes scaled n n' arrays)) short)
    (ap (judged (length (key_bytes scaled n n' arrays)) [])
    (reading-laid (key_records scaled n n' arrays) (key-fitting n n' arrays formed scaled few))
    ∙ keeping-accepted (length (key_bytes scaled n n' arrays)) 0 [] (head_record scaled n n' ∷ arrays_records scaled arrays)
    (key-onward scaled n n' arrays) (key-kept scaled n n' arrays formed few last) (omega arith)
    ∙ ap given (counts-key scaled n n' arrays))

-- the records that are read from the key are those that it is made of
pub well-formed-records : (scaled : Bool) (n n' : ℕ) (arrays : List Array) → WellFormed blocks blocks n n' arrays → length arrays ≤ 1024 →
    records_in (key_bytes scaled n n' arrays) ≡ key_records scaled n n' arrays
well-formed-records scaled n n' arrays formed few =
    records-back (head_record scaled n n' ∷ arrays_records scaled arrays) (key-onward scaled n n' arrays) (key-fitting n n' arrays formed scaled few)

pub well-formed-back : (scaled : Bool) (n n' : ℕ) (arrays : List Array) → WellFormed blocks blocks n n' arrays →
    InEdition scaled arrays → length arrays ≤ 1024 → key_arrays (key_bytes scaled n n' arrays) ≡ arrays
well-formed-back scaled n n' arrays formed written few =
    ap arrays_of (well-formed-records scaled n n' arrays formed few) ∙ arrays-back scaled n n' arrays written

pub well-formed-edition : (scaled : Bool) (n n' : ℕ) (arrays : List Array) → WellFormed blocks blocks n n' arrays →
    length arrays ≤ 1024 → key_scaled (key_bytes scaled n n' arrays) ≡ scaled
well-formed-edition scaled n n' arrays formed few =
    ap is_scaled (well-formed-records scaled n n' arrays formed few)
    ∙ head-edition scaled n n' (arrays_records scaled arrays ++ (Record.End ∷ []))
