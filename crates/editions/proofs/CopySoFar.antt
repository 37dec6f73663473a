-- The copy while it is written, before the record at an offset.
use Rattle.std.specs.Prelude.{Ok}
use Prim.Native.Nat.{ℕ, ◌+◌, ◌≤◌}
use mathlib.Core.List.{flat_map, List, ◌++◌, map}
use mathlib.Core.Path.{◌≡◌, sym, ap, ap₂, ◌∙◌}
use native.Mathlib.Omega.{arith}
use lib.ListN.{length, length-append}
use Rattle.records.specs.Kinds.{encoded, bytes_of_all}
use Rattle.records.specs.Put.{overwritten}
use Rattle.records.specs.Take.{taken_outcome, taken_at}
use Rattle.records.specs.declared.Record.{Record}
use Rattle.records.proofs.NumberBytes.{AreBytes}
use Rattle.key.specs.Index.{Runs}
use Rattle.key.specs.Indexed.{IsAccepted}
use Rattle.key.specs.Reading.{records_in}
use Rattle.editions.specs.Move.{moved_record, moved_key}
use Rattle.editions.proofs.MovedRecords.{all-run}
use Rattle.editions.proofs.Overwriting.{overwritten-none, overwritten-length, overwritten-behind}
use Rattle.editions.proofs.RecordsToEnd.{Next, run-next, run-ended}

-- the bytes of some records, moved
abbrev moved_bytes : List Record → List ℕ
moved_bytes records = bytes_of_all (map moved_record records)

module _ (key copied : List ℕ) where
  -- The records from `at` on run to the key's end. Written from `to` on, moved, they leave the buffer as it is to be, and they fit.
  pub record Partway (buffer : List ℕ) (at to : ℕ) : Type 0 where
    pub todo : List Record
    pub runs : Runs key at todo (length key)
    pub room : to + length (moved_bytes todo) ≤ length buffer
    pub same : overwritten (moved_bytes todo) buffer to ≡ copied

  module _ (buffer : List ℕ) (at to : ℕ) (partway : Partway buffer at to) where
    module _ (item : Record) (next : ℕ) (taken : taken_at key at ≡ taken_outcome (Ok (item, next))) where
      n : Next key at partway.todo item next
      n = run-next key at partway.todo partway.runs item next taken

      bytes : List ℕ
      bytes = encoded (moved_record item)

      all : moved_bytes partway.todo ≡ bytes ++ moved_bytes n.rest
      unfolding bytes flat_map
      all = ap moved_bytes n.is

      lengths : length (moved_bytes partway.todo) ≡ length bytes + length (moved_bytes n.rest)
      lengths = ap length all ∙ length-append bytes (moved_bytes n.rest)

      pub record-fits : to + length (encoded (moved_record item)) ≤ length buffer
      unfolding bytes
      record-fits = omega (arith, partway.room, lengths)

      -- with the record put, the copy goes on behind it
      pub copy-on : (put : Record) (after : List ℕ) (behind : ℕ) → put ≡ moved_record item →
          behind ≡ to + length (encoded put) → after ≡ overwritten (encoded put) buffer to → Partway after next behind
      unfolding bytes
      copy-on put after behind is e f =
          let fits : to + length bytes ≤ length buffer = record-fits in
          let g : behind ≡ to + length bytes = e ∙ ap (λ (r : Record). to + length (encoded r)) is in
          let h : after ≡ overwritten bytes buffer to = f ∙ ap (λ (r : Record). overwritten (encoded r) buffer to) is in
          record {
            todo = n.rest;
            runs = n.runs;
            room = omega (arith, partway.room, lengths, g, ap length h, overwritten-length bytes buffer to fits);
            same =
                ap₂ (overwritten (moved_bytes n.rest)) h g
                ∙ overwritten-behind bytes buffer to fits (moved_bytes n.rest)
                ∙ ap (λ (b : List ℕ). overwritten b buffer to) (sym all)
                ∙ partway.same;
          }

    -- the buffer keeps its length
    pub copy-kept : length buffer ≡ length copied
    copy-kept = sym (overwritten-length (moved_bytes partway.todo) buffer to partway.room) ∙ ap length partway.same

    -- at the key's end the copy is written
    pub copy_ended : length key ≤ at → buffer ≡ copied
    unfolding flat_map
    copy_ended l =
        sym (overwritten-none buffer to)
        ∙ ap (λ (records : List Record). overwritten (moved_bytes records) buffer to) (sym (run-ended key at partway.todo partway.runs l))
        ∙ partway.same

-- before the first record all is to be written
pub copy-begun : (key : List ℕ) → IsAccepted key → AreBytes key → (buffer : List ℕ) → length (moved_key key) ≤ length buffer →
    Partway key (overwritten (moved_key key) buffer 0) buffer 0 0
copy-begun key a are buffer fits =
    record {
      todo = records_in key;
      runs = all-run key a.0 a.1 are;
      room = omega (arith, fits);
      same = λ i. overwritten (moved_key key) buffer 0;
    }
