-- What it means that a key is accepted: it is the key of well_formed arrays in its edition.
use Rattle.std.specs.Prelude.{Ok}
use Prim.Native.Nat.{ℕ, suc, ◌+◌, ◌-◌, ◌≤◌}
use mathlib.Core.Bool.{Bool}
use mathlib.Core.List.{flat_map, List, [], ◌∷◌, ◌++◌, append-nil}
use mathlib.Core.Path.{◌≡◌, sym, ap, subst, ◌∙◌}
use native.Mathlib.Omega.{arith}
use lib.ListN.{length, get_or, length-append, drop_of_length-le}
use Rattle.refusal.specs.Outcome.{given}
use Rattle.records.specs.Kinds.{encoded, bytes_of_all}
use Rattle.records.specs.Take.{taken_outcome, taken_at}
use Rattle.records.specs.declared.Record.{Record}
use Rattle.records.proofs.TakeCases.{given-onward}
use Rattle.arrays.specs.Arrays.{Array, array_at}
use Rattle.arrays.specs.Placing.{blocks}
use Rattle.arrays.specs.WellFormed.{WellFormed, LastOfShape}
use Rattle.key.specs.Accepted.{Accepted, array_counts}
use Rattle.key.specs.Before.{is_scaled}
use Rattle.key.specs.Check.{checked_key}
use Rattle.key.specs.Encoding.{head_record, array_records, arrays_records, key_records, key_bytes, InEdition}
use Rattle.key.specs.Index.{starts_in, starts_of, Runs, Indexes}
use Rattle.key.specs.KeyArrays.{arrays_of, key_arrays, key_scaled}
use Rattle.key.specs.Reading.{records_in}
use Rattle.key.specs.declared.Counts.{Counts}
use Rattle.key.proofs.Encodings.{head-edition, head-length, arrays-back}
use Rattle.key.proofs.KeyCounts.{counts-key}
use Rattle.key.proofs.Offsets.{offset_behind, starts_from, array_starts, starts-length, starts-behind, starts-arrays}
use Rattle.key.proofs.RecordRuns.{read-runs, runs-apart, arrays-run, runs-bytes}
use Rattle.key.proofs.RecordsOfAcceptedKey.{judged-key, Made, made}

module _ (key : List ℕ) (counts : Counts) (accepted : checked_key key ≡ given counts) where
  m : Made key counts (records_in key)
  m = made key counts accepted

  arrays : List Array
  arrays = m.finished.arrays

  all : List Record
  all = key_records m.scaled m.n m.n' m.finished.arrays

  records : records_in key ≡ all
  unfolding all
  records = m.is ∙ m.finished.records

  whole : length key ≤ offset_behind 0 all
  unfolding flat_map
  whole =
      omega (
        arith,
        m.finished.whole,
        ap (offset_behind 0) (sym records ∙ m.is),
        length-append (encoded (head_record m.scaled m.n m.n')) (bytes_of_all m.rest),
        head-length m.scaled m.n m.n',
      )

  counted : counts ≡ array_counts m.n m.n' arrays
  unfolding arrays
  counted = m.finished.counts-are ∙ counts-key m.scaled m.n m.n' m.finished.arrays

  rows : counts.rows ≡ m.n
  rows = ap (λ (c : Counts). c.rows) counted

  columns : counts.columns ≡ m.n'
  columns = ap (λ (c : Counts). c.columns) counted

  arrays-are : key_arrays key ≡ arrays
  unfolding all arrays
  arrays-are = ap arrays_of records ∙ arrays-back m.scaled m.n m.n' m.finished.arrays m.finished.written

  edition : key_scaled key ≡ m.scaled
  unfolding all
  edition = ap is_scaled records ∙ head-edition m.scaled m.n m.n' (arrays_records m.scaled m.finished.arrays ++ (Record.End ∷ []))

  -- the records are taken one behind the other, and the end is the last byte
  runs : Runs key 0 all (offset_behind 0 all)
  runs = subst (λ (all : List Record). Runs key 0 all (offset_behind 0 all)) records (read-runs key (suc (length key)) 0).0

  behind-head : Runs key 3 (arrays_records m.scaled arrays ++ (Record.End ∷ [])) (offset_behind 0 all)
  unfolding all arrays
  behind-head =
      subst (λ (at : ℕ). Runs key at (arrays_records m.scaled arrays ++ (Record.End ∷ [])) (offset_behind 0 all))
      (ap (λ (n : ℕ). 0 + n) (head-length m.scaled m.n m.n')) runs.1

  end : ℕ
  end = offset_behind 3 (arrays_records m.scaled arrays)

  end-runs : Runs key end (Record.End ∷ []) (offset_behind 0 all)
  unfolding end all arrays
  end-runs = (runs-apart key 3 (arrays_records m.scaled arrays) (Record.End ∷ []) _ behind-head).1

  end-is-last : length key ≡ end + 1
  end-is-last =
      let inside = given-onward key end _ end-runs.0 in
      omega (arith, inside.1, end-runs.1, whole, ap (offset_behind 0) records)

  starts-are : starts_of key ≡ array_starts m.scaled 3 arrays
  unfolding all arrays
  starts-are = ap starts_in (read-runs key (suc (length key)) 0).1 ∙ ap (starts_from 0) records
      ∙ starts-behind m.scaled m.n m.n' (arrays_records m.scaled arrays ++ (Record.End ∷ []))
      ∙ starts-arrays m.scaled 3 arrays

  indexes : Indexes key (array_starts m.scaled 3 arrays) arrays
  unfolding end all arrays
  indexes =
      let e : end ≡ length key - 1 = omega (arith, end-is-last) in
      record {
        one_each = starts-length m.scaled 3 arrays;
        runs = λ i l.
            let one : suc i ≡ i + 1 = omega arith in
            subst (Runs key (get_or (array_starts m.scaled 3 arrays) i 0) (array_records (key_scaled key) (array_at arrays i)))
            (ap (λ (to : ℕ). get_or (array_starts m.scaled 3 arrays ++ (to ∷ [])) (suc i) 0) e
            ∙ ap (λ (j : ℕ). get_or (array_starts m.scaled 3 arrays ++ ((length key - 1) ∷ [])) j 0) one)
            (subst (λ (s : Bool). Runs key (get_or (array_starts m.scaled 3 arrays) i 0) (array_records s (array_at arrays i))
            (get_or (array_starts m.scaled 3 arrays ++ (end ∷ [])) (suc i) 0)) (sym edition)
            (arrays-run key m.scaled 3 arrays (Record.End ∷ []) _ behind-head i l));
        end =
            ap (taken_at key) (sym e) ∙ end-runs.0
            ∙ ap (λ (to : ℕ). taken_outcome (Ok (Record.End, to))) (sym end-is-last);
      }

  -- said of the edition, the head's bits and the arrays that were found, a claim holds of those that are answered
  claim : (P : Bool → ℕ → ℕ → List Array → Type 0) → P m.scaled m.n m.n' arrays →
      P (key_scaled key) counts.rows counts.columns (key_arrays key)
  claim P holds =
      subst (λ (s : Bool). P s counts.rows counts.columns (key_arrays key)) (sym edition)
      (subst (λ (k : ℕ). P m.scaled k counts.columns (key_arrays key)) (sym rows)
      (subst (λ (k : ℕ). P m.scaled m.n k (key_arrays key)) (sym columns)
      (subst (P m.scaled m.n m.n') (sym arrays-are) holds)))

  -- the head is taken at the first byte
  pub first-record :
      taken_at key 0 ≡ taken_outcome (Ok ((head_record (key_scaled key) counts.rows counts.columns), 3))
  unfolding all
  first-record =
      claim (λ s k k' a. taken_at key 0 ≡ taken_outcome (Ok ((head_record s k k'), 3)))
      (runs.0
      ∙ ap (λ (n : ℕ). taken_outcome (Ok ((head_record m.scaled m.n m.n'), (0 + n))))
      (head-length m.scaled m.n m.n'))

  pub acceptance : Accepted key counts
  unfolding all arrays
  acceptance =
      record {
        at_most_65536 = (judged-key key counts accepted).0;
        well_formed = claim (λ s. WellFormed blocks blocks) m.finished.well;
        last_of_shape = claim (λ s. LastOfShape) m.finished.last;
        at_most_1024 = claim (λ s k k' a. length a ≤ 1024) m.finished.most;
        counted = claim (λ s k k' a. counts ≡ array_counts k k' a) counted;
        in_edition = claim (λ s k k' a. InEdition s a) m.finished.written;
        records = claim (λ s k k' a. records_in key ≡ key_records s k k' a) records;
        bytes = λ are. claim (λ s k k' a. key ≡ key_bytes s k k' a)
            (runs-bytes key are 0 all _ runs
            ∙ ap (λ (rest : List ℕ). key_bytes m.scaled m.n m.n' arrays ++ rest)
            (drop_of_length-le key {i = offset_behind 0 all} (omega (arith, whole, ap (offset_behind 0) records)))
            ∙ append-nil (key_bytes m.scaled m.n m.n' arrays));
        index = claim (λ s k k' a. Indexes key (starts_of key) a) (subst (λ (s : List ℕ). Indexes key s arrays) (sym starts-are) indexes);
      }
