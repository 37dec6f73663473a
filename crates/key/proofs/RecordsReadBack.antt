-- The bytes of some records are read as those records, one behind the other.
use Prim.Native.Nat.{ℕ, zero, suc, ◌+◌, ◌≤◌}
use mathlib.Core.List.{flat_map, List, [], ◌∷◌, ◌++◌, append_assoc}
use mathlib.Core.Path.{◌≡◌, refl, ap, ◌∙◌}
use native.Mathlib.Omega.{arith}
use lib.ListN.{length, length-append}
use Rattle.refusal.specs.Number.{number_of}
use Rattle.refusal.specs.declared.Reason.{Reason}
use Rattle.records.specs.Inner.{Fitting}
use Rattle.records.specs.Kinds.{encoded, bytes_of_all}
use Rattle.records.specs.declared.Record.{Record}
use Rattle.records.proofs.RoundTrip.{taken-between}
use Rattle.records.proofs.TakeCases.{missing-refused}
use Rattle.arrays.specs.WellFormed.{Each}
use Rattle.key.specs.Reading.{Reading, stopped, located, behind, read_at, read_from, reading_of, located_in, items, records_in}
use Rattle.key.proofs.EndOrOnward.{Onward, behind-onward}
use Rattle.key.proofs.ReadingSteps.{read-record, read-stopped}

-- records one behind the other from an offset on; behind the last no record can be taken
unfoldable pub laid : ℕ → List Record → Reading
laid at [] = stopped (number_of Reason.RecordIncomplete) at
laid at (r ∷ records) =
    located
    (record { item = r; at = at; next = at + length (encoded r) })
    (behind r (laid (at + length (encoded r)) records))

-- as many steps as there are records, or more, read the bytes of records between any others
read_all : (records : List Record) (before : List ℕ) (steps : ℕ) → Each Fitting records → length records ≤ steps →
    read_from steps (before ++ bytes_of_all records) (length before) ≡ laid (length before) records
unfolding read_from read_at laid flat_map
read_all [] before zero fit room = refl
read_all [] before (suc steps) fit room =
    read-stopped steps (before ++ []) (length before) (number_of Reason.RecordIncomplete) (length before)
    (missing-refused (before ++ []) (length before) (omega (arith, length-append before [])) (omega (arith, length-append before [])))
read_all (r ∷ records) before zero fit room = absurd (omega arith)
read_all (r ∷ records) before (suc steps) fit room =
    read-record steps (before ++ (encoded r ++ bytes_of_all records)) (length before) r (length before + length (encoded r))
    (taken-between r before (bytes_of_all records) fit.0)
    ∙ ap
    (λ (rest : Reading).
    located (record { item = r; at = length before; next = length before + length (encoded r) }) (behind r rest))
    (rw (append_assoc before (encoded r) (bytes_of_all records), length-append before (encoded r)) at
    (read_all records (before ++ encoded r) steps fit.1 (omega arith)))

-- a record has a byte or more
length-records : (records : List Record) → length records ≤ length (bytes_of_all records)
unfolding flat_map
length-records [] = omega arith
length-records (r ∷ records) = omega (arith, length-records records, length-append (encoded r) (bytes_of_all records))

-- the bytes of records that fit are read as those records
pub reading-laid : (records : List Record) → Each Fitting records → reading_of (bytes_of_all records) ≡ laid 0 records
reading-laid records fit =
    read_all records [] (suc (length (bytes_of_all records))) fit (omega (arith, length-records records))

-- ---- records that end with an end

laid-items : (at : ℕ) (records : List Record) → Each Onward records →
    items (located_in (laid at (records ++ (Record.End ∷ [])))) ≡ records ++ (Record.End ∷ [])
unfolding laid located_in
laid-items at [] onward = refl
laid-items at (r ∷ records) onward =
    ap (λ (rest : Reading). r ∷ items (located_in rest))
    (behind-onward r onward.0 (laid (at + length (encoded r)) (records ++ (Record.End ∷ []))))
    ∙ ap (λ (rest : List Record). r ∷ rest) (laid-items (at + length (encoded r)) records onward.1)

pub records-back : (records : List Record) → Each Onward records → Each Fitting (records ++ (Record.End ∷ [])) →
    records_in (bytes_of_all (records ++ (Record.End ∷ []))) ≡ records ++ (Record.End ∷ [])
records-back records onward fit =
    ap (λ (reading : Reading). items (located_in reading)) (reading-laid (records ++ (Record.End ∷ [])) fit)
    ∙ laid-items 0 records onward
