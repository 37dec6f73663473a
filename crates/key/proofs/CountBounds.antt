-- A key has no more records than bytes and one, and so an accepted key has at most 65,537 cells and at most 65,537 calls.
use Prim.Native.Nat.{ℕ, zero, suc, ◌≤◌}
use mathlib.Core.List.{List}
use mathlib.Core.Path.{◌≡◌, sym, ap, ◌∙◌}
use native.Mathlib.Omega.{arith}
use lib.ListN.{length, length-map}
use Rattle.refusal.specs.Outcome.{Outcome, given, refused}
use Rattle.records.specs.Kinds.{record_of}
use Rattle.records.specs.Take.{Found, taken_at}
use Rattle.records.specs.declared.Record.{Record}
use Rattle.key.specs.Check.{counts_of, checked_key}
use Rattle.key.specs.KeyArrays.{key_arrays, key_scaled}
use Rattle.key.specs.Reading.{Located, Reading, behind, read_at, read_from, reading_of, located_in, records_in}
use Rattle.key.specs.declared.Counts.{Counts}
use Rattle.key.proofs.Acceptance.{acceptance}
use Rattle.key.proofs.KeyCounts.{counts-key}
use Rattle.key.proofs.RecordsBefore.{count_most, calls-most}

behind-most : (n : ℕ) (item : Record) (rest : Reading) → length (located_in rest) ≤ n → length (located_in (behind item rest)) ≤ n
unfolding located_in
behind-most n (Record.Head shape) rest most = most
behind-most n (Record.Sparse shape) rest most = most
behind-most n (Record.Recursive shape) rest most = most
behind-most n (Record.Cell cell) rest most = most
behind-most n (Record.Call call) rest most = most
behind-most n Record.End rest most = omega arith
behind-most n (Record.ScaledHead shape) rest most = most
behind-most n (Record.ScaledCall call) rest most = most

-- a step reads one record at most
read-most : (steps : ℕ) (key : List ℕ) (at : ℕ) → length (located_in (read_from steps key at)) ≤ steps
unfolding read_from read_at located_in
read-most zero key at = omega arith
read-most (suc steps) key at = go (taken_at key at) (λ next. read-most steps key next)
  where
    go : (t : Outcome Found) → ((next : ℕ) → length (located_in (read_from steps key next)) ≤ steps) →
        length (located_in (read_at at t (read_from steps key))) ≤ suc steps
    go (refused number place) later = omega arith
    go (given found) later =
        omega (
          arith,
          behind-most steps (record_of found.kind found.fields) (read_from steps key found.next) (later found.next),
        )

records-most : (key : List ℕ) → length (records_in key) ≤ suc (length key)
records-most key =
    omega (
      arith,
      read-most (suc (length key)) key 0,
      length-map (located_in (reading_of key)) (λ (x : Located). x.item),
    )

-- and so the counts of cells and of calls fit 32 bits
module _ (key : List ℕ) (counts : Counts) (accepted : checked_key key ≡ given counts) where
  counts-are : counts ≡ counts_of (records_in key)
  counts-are =
      let a = acceptance key counts accepted in
      a.counted ∙ sym (counts-key (key_scaled key) counts.rows counts.columns (key_arrays key)) ∙ ap counts_of (sym a.records)

  few : (count : Counts → ℕ) → count (counts_of (records_in key)) ≤ length (records_in key) → count counts ≤ 65537
  few count most =
      omega (arith, most, ap count counts-are, records-most key, (acceptance key counts accepted).at_most_65536)

  pub cells-few : counts.cells ≤ 65537
  cells-few = few (λ c. c.cells) (count_most 0x04 (records_in key))

  pub calls-few : counts.calls ≤ 65537
  calls-few = few (λ c. c.calls) (calls-most (records_in key))
