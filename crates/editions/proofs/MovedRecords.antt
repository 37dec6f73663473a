-- An accepted key runs to its end, and its copy is the key of its arrays in the other edition.
use Prim.Native.Nat.{ℕ, suc, ◌+◌, ◌*◌, ◌≤◌}
use mathlib.Core.Bool.{Bool, true, false, not}
use mathlib.Core.List.{List, [], map}
use mathlib.Core.Path.{◌≡◌, sym, ap, subst, ◌∙◌}
use native.Mathlib.Omega.{arith}
use lib.ListN.{length, get_or}
use Rattle.refusal.specs.Outcome.{given}
use Rattle.records.specs.Kinds.{bytes_of_all}
use Rattle.records.specs.declared.Record.{Record}
use Rattle.records.proofs.NumberBytes.{AreBytes}
use Rattle.arrays.specs.Totals.{calls_in, total_of}
use Rattle.key.specs.Accepted.{Accepted}
use Rattle.key.specs.Check.{checked_key}
use Rattle.key.specs.Encoding.{key_bytes}
use Rattle.key.specs.Index.{Runs}
use Rattle.key.specs.KeyArrays.{key_arrays, key_scaled}
use Rattle.key.specs.Reading.{records_in}
use Rattle.key.specs.declared.Counts.{Counts}
use Rattle.key.proofs.Acceptance.{acceptance}
use Rattle.key.proofs.RecordRuns.{read-runs}
use Rattle.editions.specs.Move.{moved_record, moved_key, other_factors}
use Rattle.editions.proofs.ArraysMoved.{key-moved, key-longer}
use Rattle.editions.proofs.OtherFactors.{factors-lie, factor-inside}

module _ (key : List ℕ) (counts : Counts) (accepted : checked_key key ≡ given counts) where
  a : Accepted key counts
  a = acceptance key counts accepted

  -- the copy
  pub moved-is : moved_key key ≡ key_bytes (not (key_scaled key)) counts.rows counts.columns (key_arrays key)
  moved-is =
      ap (λ (records : List Record). bytes_of_all (map moved_record records)) a.records
      ∙ ap bytes_of_all (key-moved (key_scaled key) counts.rows counts.columns (key_arrays key) a.in_edition)

  module _ (are : AreBytes key) where
    whole : length key ≡ length (bytes_of_all (records_in key))
    whole = ap length (a.bytes are) ∙ ap (λ (records : List Record). length (bytes_of_all records)) (sym a.records)

    pub all-run : Runs key 0 (records_in key) (length key)
    all-run =
        subst (Runs key 0 (records_in key)) (let e : 0 + length (bytes_of_all (records_in key)) ≡ length key = omega (arith, whole) in e)
        (read-runs key (suc (length key)) 0).0

    -- no offset of a factor other than 1 lies in the key: there is none
    pub no_other : length key ≤ get_or (other_factors key) 0 (length key) → other_factors key ≡ []
    no_other l =
        factors-lie key
        ∙ factor-inside key 0 (records_in key) all-run
        (subst (λ (offsets : List ℕ). length key ≤ get_or offsets 0 (length key)) (factors-lie key) l)

    -- the copy's length: four bytes more or less a call
    lengths : (scaled : Bool) → key_scaled key ≡ scaled →
        length (key_bytes scaled counts.rows counts.columns (key_arrays key)) ≡ length key
    lengths scaled e =
        ap (λ (s : Bool). length (key_bytes s counts.rows counts.columns (key_arrays key))) (sym e) ∙ sym (ap length (a.bytes are))

    moved_length : (scaled : Bool) → key_scaled key ≡ scaled →
        length (moved_key key) ≡ length (key_bytes (not scaled) counts.rows counts.columns (key_arrays key))
    moved_length scaled e =
        ap length moved-is ∙ ap (λ (s : Bool). length (key_bytes (not s) counts.rows counts.columns (key_arrays key))) e

    calls : counts.calls ≡ total_of calls_in (key_arrays key)
    calls = ap (λ (c : Counts). c.calls) a.counted

    pub longer : key_scaled key ≡ false → length key + 4 * counts.calls ≡ length (moved_key key)
    longer e =
        omega (
          arith,
          calls,
          lengths false e,
          moved_length false e,
          key-longer counts.rows counts.columns (key_arrays key),
        )

    pub shorter : key_scaled key ≡ true → length key ≡ length (moved_key key) + 4 * counts.calls
    shorter e =
        omega (
          arith,
          calls,
          lengths true e,
          moved_length true e,
          key-longer counts.rows counts.columns (key_arrays key),
        )
