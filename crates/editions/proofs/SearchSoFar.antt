-- The search for a factor other than 1, before the record at an offset.
use Rattle.std.specs.Prelude.{Ok}
use Prim.Native.Nat.{ℕ, ◌≤◌}
use mathlib.Core.Bool.{Bool, true, false, cond}
use mathlib.Core.List.{flat_map, List, [], ◌∷◌, ◌++◌}
use mathlib.Core.Path.{◌≡◌, sym, ap, ap₂, ◌∙◌}
use lib.ListN.{length, get_or}
use Rattle.records.specs.Take.{taken_outcome, taken_at}
use Rattle.records.specs.declared.Record.{Record}
use Rattle.records.proofs.NumberBytes.{AreBytes}
use Rattle.key.specs.Encoding.{key_records}
use Rattle.key.specs.Index.{Runs}
use Rattle.key.specs.Indexed.{IsAccepted}
use Rattle.key.specs.KeyArrays.{key_arrays, key_scaled}
use Rattle.key.specs.Reading.{records_in}
use Rattle.key.proofs.Acceptance.{acceptance}
use Rattle.editions.specs.Move.{has_other_factor, other_factors}
use Rattle.editions.proofs.MovedRecords.{all-run}
use Rattle.editions.proofs.OtherFactors.{other_factors_from, factors-lie, no-factors, scaled-written, key-unscaled}
use Rattle.editions.proofs.RecordsToEnd.{Next, run-next, run-ended}

module _ (key : List ℕ) where
  -- the first offset, or the key's length
  abbrev pub first_other : ℕ
  first_other = get_or (other_factors key) 0 (length key)

  -- the records from the offset on run to the key's end, and they have all such calls
  pub record Ahead (at : ℕ) : Type 0 where
    pub todo : List Record
    pub runs : Runs key at todo (length key)
    pub same : other_factors key ≡ other_factors_from at todo

  pub none_ahead : (a : IsAccepted key) → key_scaled key ≡ false → length key ≡ first_other
  none_ahead a e =
      let f = acceptance key a.0 a.1 in
      sym (ap (λ (offsets : List ℕ). get_or offsets 0 (length key))
      (factors-lie key ∙ ap (other_factors_from 0) f.records
      ∙ ap (λ (scaled : Bool). other_factors_from 0 (key_records scaled a.0.rows a.0.columns (key_arrays key))) e
      ∙ no-factors 0 (key_records false a.0.rows a.0.columns (key_arrays key))
      (key-unscaled false a.0.rows a.0.columns (key_arrays key) (scaled-written (key_arrays key)))))

  pub all-ahead : IsAccepted key → AreBytes key → Ahead 0
  all-ahead a are = record { todo = records_in key; runs = all-run key a.0 a.1 are; same = factors-lie key }

  module _ (at : ℕ) (ahead : Ahead at) where
    module _ (item : Record) (next : ℕ) (taken : taken_at key at ≡ taken_outcome (Ok (item, next))) where
      n : Next key at ahead.todo item next
      n = run-next key at ahead.todo ahead.runs item next taken

      -- such calls from the offset on, by whether the record is one
      by-record : (other : Bool) → has_other_factor item ≡ other →
          other_factors key ≡ cond other (at ∷ []) [] ++ other_factors_from next n.rest
      unfolding flat_map
      by-record other e =
          ahead.same ∙ ap (other_factors_from at) n.is
          ∙ ap₂ (λ (b : Bool) (m : ℕ). cond b (at ∷ []) [] ++ other_factors_from m n.rest) e (sym n.further)

      pub found_here : has_other_factor item ≡ true → at ≡ first_other
      found_here e = sym (ap (λ (offsets : List ℕ). get_or offsets 0 (length key)) (by-record true e))

      pub search-on : has_other_factor item ≡ false → Ahead next
      search-on e = record { todo = n.rest; runs = n.runs; same = by-record false e }

    pub search-ended : length key ≤ at → length key ≡ first_other
    unfolding flat_map
    search-ended l =
        sym (ap (λ (offsets : List ℕ). get_or offsets 0 (length key))
        (ahead.same ∙ ap (other_factors_from at) (run-ended key at ahead.todo ahead.runs l)))
