-- The records that are read are taken one behind the other.
-- Those of each array run from its offset to the next, and they are the bytes there.
use Rattle.std.specs.Prelude.{Ok}
use Prim.Native.Nat.{ℕ, zero, suc, ◌+◌, ◌-◌, ◌<◌}
use mathlib.Core.Bool.{Bool}
use mathlib.Core.List.{flat_map, List, [], ◌∷◌, ◌++◌, append_assoc}
use mathlib.Core.Logic.{◌⊎◌, inl, inr}
use mathlib.Core.Path.{◌≡◌, refl, sym, ap, ap₂, subst, ◌∙◌}
use native.Mathlib.Omega.{arith}
use lib.ListN.{length, get_or, take, drop, take-append-drop}
use lib.Seq.{drop-drop}
use Rattle.refusal.specs.Outcome.{Outcome, given, refused}
use Rattle.records.specs.Kinds.{record_of, encoded, bytes_of_all}
use Rattle.records.specs.Take.{Found, taken_outcome, taken_at}
use Rattle.records.specs.declared.Record.{Record}
use Rattle.records.proofs.FoundIsRecord.{found-taken}
use Rattle.records.proofs.RoundTrip.{taken-bytes}
use Rattle.arrays.specs.Arrays.{Array, array_at}
use Rattle.key.specs.Encoding.{array_records, arrays_records}
use Rattle.key.specs.Index.{Runs}
use Rattle.key.specs.Reading.{Located, Reading, behind, read_at, read_from, located_in, items}
use Rattle.key.proofs.Offsets.{offset_behind, behind-cons, behind-append, located_from, array_starts, first-bound}
use Rattle.key.proofs.EndOrOnward.{Onward, ends-or-not, behind-onward}

module _ (key : List ℕ) where
  runs_to : (at : ℕ) (records : List Record) (to other : ℕ) → to ≡ other → Runs key at records to → Runs key at records other
  runs_to at records to other e runs = subst (Runs key at records) e runs

  -- ---- what is read

  -- the records of a reading run from an offset on, and that is where each of them lies
  abbrev Read : ℕ → Reading → Type 0
  Read at reading =
      Runs key at (items (located_in reading)) (offset_behind at (items (located_in reading))) ×
      (located_in reading ≡ located_from at (items (located_in reading)))

  pub read-runs : (steps at : ℕ) → Read at (read_from steps key at)
  unfolding read_from read_at located_in flat_map
  read-runs zero at = (omega arith, refl)
  read-runs (suc steps) at = taken (taken_at key at) refl (read-runs steps)
    where
      cut : (r : Record) (next : ℕ) → (r ≡ Record.End) ⊎ Onward r → Read next (read_from steps key next) →
          Read next (behind r (read_from steps key next))
      cut r next (inl end) read =
          subst (λ (r : Record). Read next (behind r (read_from steps key next))) (sym end) (omega arith, refl)
      cut r next (inr on) read = subst (Read next) (sym (behind-onward r on (read_from steps key next))) read

      taken : (t : Outcome Found) → taken_at key at ≡ t → ((next : ℕ) → Read next (read_from steps key next)) →
          Read at (read_at at t (read_from steps key))
      taken (refused number place) e later = (omega arith, refl)
      taken (given found) e later =
          let r : Record = record_of found.kind found.fields in
          let here = found-taken key at found e in
          let read = cut r found.next (ends-or-not r) (later found.next) in
          let rest : List Record = items (located_in (behind r (read_from steps key found.next))) in (
            (
              here.0 ∙ ap (λ (n : ℕ). taken_outcome (Ok (r, n))) here.1,
              runs_to (at + length (encoded r)) rest _ _ (behind-cons at r rest)
                  (subst (λ (m : ℕ). Runs key m rest (offset_behind m rest)) here.1 read.0),
            ),
            ap₂ (λ (next : ℕ) (s : List Located). record { item = r; at = at; next = next } ∷ s) here.1
                (read.1 ∙ ap (λ (m : ℕ). located_from m rest) here.1),
          )

  -- ---- the records of some arrays

  -- records run where those in front of them and those behind them do
  pub runs-apart : (at : ℕ) (records more : List Record) (to : ℕ) → Runs key at (records ++ more) to →
      Runs key at records (offset_behind at records) × Runs key (offset_behind at records) more to
  unfolding flat_map
  runs-apart at [] more to runs = let e : at ≡ offset_behind at [] = omega arith in (e, subst (λ (m : ℕ). Runs key m more to) e runs)
  runs-apart at (r ∷ records) more to runs =
      let later = runs-apart (at + length (encoded r)) records more to runs.1 in (
        (runs.0, runs_to (at + length (encoded r)) records _ _ (behind-cons at r records) later.0),
        subst (λ (m : ℕ). Runs key m more to) (behind-cons at r records) later.1,
      )

  pub arrays-run : (scaled : Bool) (at : ℕ) (arrays : List Array) (more : List Record) (to : ℕ) → Runs key at (arrays_records scaled arrays ++ more) to →
      (i : ℕ) → i < length arrays →
      Runs key (get_or (array_starts scaled at arrays) i 0) (array_records scaled (array_at arrays i))
      (get_or (array_starts scaled at arrays ++ (offset_behind at (arrays_records scaled arrays) ∷ [])) (suc i) 0)
  unfolding flat_map
  arrays-run scaled at [] more to runs i l = absurd (omega arith)
  arrays-run scaled at (array ∷ arrays) more to runs zero l =
      runs_to at (array_records scaled array) _ _ (first-bound scaled at (array_records scaled array) arrays)
      (runs-apart at (array_records scaled array) (arrays_records scaled arrays ++ more) to
      (subst (λ (rs : List Record). Runs key at rs to) (append_assoc (array_records scaled array) (arrays_records scaled arrays) more) runs)).0
  arrays-run scaled at (array ∷ arrays) more to runs (suc i) l =
      subst
      (λ (end : ℕ). Runs key (get_or (array_starts scaled (offset_behind at (array_records scaled array)) arrays) i 0) (array_records scaled (array_at arrays i))
      (get_or (array_starts scaled (offset_behind at (array_records scaled array)) arrays ++ (end ∷ [])) (suc i) 0))
      (behind-append at (array_records scaled array) (arrays_records scaled arrays))
      (arrays-run scaled (offset_behind at (array_records scaled array)) arrays more to
      (runs-apart at (array_records scaled array) (arrays_records scaled arrays ++ more) to
      (subst (λ (rs : List Record). Runs key at rs to) (append_assoc (array_records scaled array) (arrays_records scaled arrays) more) runs)).1
      i (omega arith))

  -- ---- the bytes

  -- records that are taken one behind the other are the bytes there
  pub runs-bytes : ((i : ℕ) → get_or key i 0 < 256) → (at : ℕ) (records : List Record) (to : ℕ) → Runs key at records to →
      drop at key ≡ bytes_of_all records ++ drop to key
  unfolding flat_map
  runs-bytes are at [] to runs = ap (λ (m : ℕ). drop m key) runs
  runs-bytes are at (r ∷ records) to runs =
      let e : (at + size) - at ≡ size = omega arith in
      sym (take-append-drop size (drop at key))
      ∙ ap₂ ◌++◌ (sym (taken-bytes key are at (at + size) r runs.0 ∙ ap (λ (n : ℕ). take n (drop at key)) e))
      (drop-drop size at key ∙ runs-bytes are (at + size) records to runs.1)
      ∙ sym (append_assoc (encoded r) (bytes_of_all records) (drop to key))
    where
      size : ℕ
      size = length (encoded r)
