-- The records of well_formed arrays with an array, or an entry of the last array, more.
use Prim.Native.Nat.{ℕ, ◌≤◌, ◌<◌}
use mathlib.Core.Bool.{Bool}
use mathlib.Core.List.{flat_map, List, [], ◌∷◌, ◌++◌, map, append_assoc, append-nil}
use mathlib.Core.Path.{◌≡◌, sym, ap, ◌∙◌}
use native.Mathlib.Omega.{arith}
use lib.ListN.{length, length-append}
use Rattle.records.specs.declared.Record.{Record}
use Rattle.records.specs.declared.Shape.{Shape}
use Rattle.arrays.specs.Arrays.{Entries, Array}
use Rattle.arrays.specs.Placing.{blocks}
use Rattle.arrays.specs.WellFormed.{ArrayFits, WellFormed}
use Rattle.arrays.proofs.EachElement.{each_append, each-apart}
use Rattle.arrays.proofs.OneArrayMore.{array-added, array-removed}
use Rattle.key.specs.Before.{opened}
use Rattle.key.specs.Encoding.{head_record, array_records, arrays_records, EntriesIn, InEdition}
use Rattle.key.proofs.Encodings.{array_with, opening_of, opened-arrays, opened-behind}
use Rattle.key.proofs.JoinedLists.{flat_map-append}

module _ (scaled : Bool) (n n' : ℕ) where
  -- the head and the records of some arrays
  abbrev pub before : List Array → List Record
  before arrays = head_record scaled n n' ∷ arrays_records scaled arrays

  -- one record more makes these arrays others that are well formed
  pub record Grown (records : List Record) : Type 0 where
    pub arrays : List Array
    pub is : records ≡ before arrays
    pub well : WellFormed blocks blocks n n' arrays
    pub written : InEdition scaled arrays
    pub most : length arrays ≤ 1024

  pub opened-before : (arrays : List Array) → opened (before arrays) ≡ map opening_of arrays
  opened-before arrays = opened-behind scaled n n' (arrays_records scaled arrays) ∙ opened-arrays scaled arrays

  -- an array without entries
  pub opening-grown : (arrays : List Array) (r : Record) (shape : Shape) (none : Entries) →
      array_records scaled (array_with shape.rows shape.columns none) ≡ r ∷ [] →
      ArrayFits blocks blocks arrays n n' (length arrays) (array_with shape.rows shape.columns none) →
      EntriesIn scaled none → WellFormed blocks blocks n n' arrays → InEdition scaled arrays → length arrays < 1024 →
      Grown (before arrays ++ (r ∷ []))
  unfolding flat_map
  opening-grown arrays r shape none is fits empty well written room =
      let a : Array = array_with shape.rows shape.columns none in
      record {
        arrays = arrays ++ (a ∷ []);
        is =
            ap (λ (rest : List Record). before arrays ++ rest) (sym (append-nil (array_records scaled a) ∙ is))
            ∙ ap (λ (rest : List Record). head_record scaled n n' ∷ rest) (sym (flat_map-append (array_records scaled) arrays (a ∷ [])));
        well = array-added blocks blocks n n' arrays a well fits;
        written = each_append (λ array. EntriesIn scaled array.entries) arrays (a ∷ []) written (empty, tt);
        most = omega (arith, length-append arrays (a ∷ []));
      }

  -- the open array with one entry more
  pub entry-grown : (arrays : List Array) (k k' : ℕ) (old new : Entries) (r : Record) →
      array_records scaled (array_with k k' new) ≡ array_records scaled (array_with k k' old) ++ (r ∷ []) →
      WellFormed blocks blocks n n' (arrays ++ (array_with k k' old ∷ [])) →
      InEdition scaled (arrays ++ (array_with k k' old ∷ [])) → (EntriesIn scaled old → EntriesIn scaled new) →
      length (arrays ++ (array_with k k' old ∷ [])) ≤ 1024 →
      ArrayFits blocks blocks arrays n n' (length arrays) (array_with k k' new) →
      Grown (before (arrays ++ (array_with k k' old ∷ [])) ++ (r ∷ []))
  unfolding flat_map
  entry-grown arrays k k' old new r is well written more most fits =
      record {
        arrays = arrays ++ (array_with k k' new ∷ []);
        is =
            ap (λ (rest : List Record). head_record scaled n n' ∷ rest)
            (ap (λ (rest : List Record). rest ++ (r ∷ [])) (whole old)
            ∙ append_assoc (arrays_records scaled arrays) (array_records scaled (array_with k k' old)) (r ∷ [])
            ∙ ap (λ (rest : List Record). arrays_records scaled arrays ++ rest) (sym is)
            ∙ sym (whole new));
        well =
            array-added blocks blocks n n' arrays (array_with k k' new)
            (array-removed blocks blocks n n' arrays (array_with k k' old) well).0 fits;
        written =
            let apart = each-apart (λ array. EntriesIn scaled array.entries) arrays (array_with k k' old ∷ []) written in
            each_append (λ array. EntriesIn scaled array.entries) arrays (array_with k k' new ∷ []) apart.0 (more apart.1.0, tt);
        most = omega (arith, length-append arrays (array_with k k' old ∷ []), length-append arrays (array_with k k' new ∷ []));
      }
    where
      whole : (entries : Entries) →
          arrays_records scaled (arrays ++ (array_with k k' entries ∷ [])) ≡ arrays_records scaled arrays ++ array_records scaled (array_with k k' entries)
      whole entries =
          flat_map-append (array_records scaled) arrays (array_with k k' entries ∷ [])
          ∙ ap (λ (rest : List Record). arrays_records scaled arrays ++ rest) (append-nil (array_records scaled (array_with k k' entries)))
