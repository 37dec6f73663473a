-- A record that keeps its rules behind the records of well_formed arrays leaves them the records of well_formed arrays.
use Prim.Native.Nat.{ℕ, suc, ◌-◌, ◌≤◌, ◌<◌}
use mathlib.Core.Bool.{Bool, true, false, false≢true}
use mathlib.Core.List.{List, [], ◌∷◌, ◌++◌, map}
use mathlib.Core.Path.{◌≡◌, refl, sym, ap, subst, ◌∙◌}
use native.Mathlib.Omega.{arith}
use borrow.Author.Tests.{ltb-false, leb-false, eqb-true, not-false}
use lib.Dec.{eqb}
use lib.ListN.{length, take, length-map, drop_of_length-le}
use lib.Seq.{length-take-le, split_at}
use Rattle.field.specs.Fp.{p}
use Rattle.records.specs.declared.Cell.{Cell as CellRecord}
use Rattle.records.specs.declared.Record.{Record}
use Rattle.records.specs.declared.Shape.{Shape}
use Rattle.arrays.specs.Arrays.{Call, Entries, cells, calls, Array, array_at}
use Rattle.arrays.specs.Placing.{blocks}
use Rattle.arrays.specs.WellFormed.{EntriesFit, ArrayFits, WellFormed}
use Rattle.rules.specs.Inner.{AllKept}
use Rattle.rules.specs.Rules.{not_open, opening_rules, cell_rules, called_rules}
use Rattle.rules.specs.declared.Opening.{Opening}
use Rattle.key.specs.Before.{opened, open_now, opening_at, head_of}
use Rattle.key.specs.Check.{rules_of}
use Rattle.key.specs.Encoding.{call_record, arrays_records, FactorIn, InEdition}
use Rattle.key.specs.KeyArrays.{call_in, scaled_call_in}
use Rattle.key.proofs.ArrayOrEntryMore.{before, Grown, opened-before, opening-grown}
use Rattle.key.proofs.ArraysBefore.{open-now}
use Rattle.key.proofs.Encodings.{head-shape, array_with, opening_of}
use Rattle.key.proofs.KeptEntryFits.{calling, cell-grown, call-grown}
use Rattle.key.proofs.RecordsBefore.{some-open}
use Rattle.key.proofs.EndOrOnward.{Onward}

-- some arrays, the last of them apart
last_apart : (arrays : List Array) → 0 < length arrays →
    arrays ≡ take (length arrays - 1) arrays ++ (array_at arrays (length arrays - 1) ∷ [])
last_apart arrays some =
    split_at arrays (length arrays - 1) _ (omega arith)
    ∙ ap (λ (rest : List Array). take (length arrays - 1) arrays ++ array_at arrays (length arrays - 1) ∷ rest)
    (drop_of_length-le arrays {i = suc (length arrays - 1)} (omega arith))

module _ (scaled : Bool) (n n' : ℕ) where
  -- an opening that keeps its rules
  module _ (arrays : List Array) (shape : Shape) where
    abbrev Opens : Type 0
    Opens =
        AllKept
        (opening_rules (eqb (length (before scaled n n' arrays)) 0) (head_of (before scaled n n' arrays))
        (length (opened (before scaled n n' arrays))) shape)

    opening-fits : (none : Entries) → EntriesFit blocks blocks arrays (length arrays) shape.rows shape.columns none → Opens →
        ArrayFits blocks blocks arrays n n' (length arrays) (array_with shape.rows shape.columns none)
    opening-fits none fit kept =
        let head = head-shape scaled n n' (arrays_records scaled arrays) in
        record {
          rows_at_most = omega (arith, ltb-false _ shape.rows kept.1.1.0, ap (λ (s : Shape). s.rows) head);
          columns_at_most = omega (arith, ltb-false _ shape.columns kept.1.1.1.0, ap (λ (s : Shape). s.columns) head);
          entries_fit = fit;
        }

    opening-room : Opens → length arrays < 1024
    opening-room kept =
        omega (
          arith,
          leb-false 1024 (length (opened (before scaled n n' arrays))) kept.1.0,
          ap length (opened-before scaled n n' arrays),
          length-map arrays opening_of,
        )

  module _ (arrays : List Array) (well : WellFormed blocks blocks n n' arrays) (written : InEdition scaled arrays)
      (most : length arrays ≤ 1024) where
    cell-fits : (c : CellRecord) → AllKept (cell_rules (open_now (opened (before scaled n n' arrays))) c) →
        Grown scaled n n' (before scaled n n' arrays ++ (Record.Cell c ∷ []))
    cell-fits c kept =
        let held = subst (λ (os : List Opening). AllKept (cell_rules (open_now os) c)) (opened-before scaled n n' arrays) kept in
        let some : 0 < length arrays =
        omega (arith, some-open (map opening_of arrays) 2 (omega arith) held.0, length-map arrays opening_of) in
        let e = last_apart arrays some in
        let a : Array = array_at arrays (length arrays - 1) in
        subst (λ (us : List Array). Grown scaled n n' (before scaled n n' us ++ (Record.Cell c ∷ []))) (sym e)
        (cell-grown scaled n n' (take (length arrays - 1) arrays) a.row_bits a.column_bits a.entries c
        (subst (λ (o : Opening). AllKept (cell_rules o c)) (open-now arrays some) held)
        (subst (WellFormed blocks blocks n n') e well) (subst (InEdition scaled) e written)
        (subst (λ (us : List Array). length us ≤ 1024) e most))

    -- the rules that calls of both editions have
    abbrev Calls : Call → List Opening → Type 0
    Calls c os =
        (not_open 0x03 (open_now os).kind ≡ false) ×
        AllKept (called_rules (open_now os).shape (length os - 1) (opening_at os c.id).shape (calling c))

    call_fits : (c : Call) → FactorIn scaled c.factor → c.factor < p → Calls c (opened (before scaled n n' arrays)) →
        Grown scaled n n' (before scaled n n' arrays ++ (call_record scaled c ∷ []))
    call_fits c can below kept =
        let held = subst (Calls c) (opened-before scaled n n' arrays) kept in
        let some : 0 < length arrays =
        omega (arith, some-open (map opening_of arrays) 3 (omega arith) held.0, length-map arrays opening_of) in
        let e = last_apart arrays some in
        let a : Array = array_at arrays (length arrays - 1) in
        let own : length (map opening_of arrays) - 1 ≡ length (take (length arrays - 1) arrays) =
        omega (arith, length-map arrays opening_of, length-take-le (length arrays - 1) arrays (omega arith)) in
        let now = subst (λ (o : Opening). (not_open 0x03 o.kind ≡ false) ×
        AllKept (called_rules o.shape (length (map opening_of arrays) - 1) (opening_at (map opening_of arrays) c.id).shape (calling c)))
        (open-now arrays some) held in
        subst (λ (us : List Array). Grown scaled n n' (before scaled n n' us ++ (call_record scaled c ∷ []))) (sym e)
        (call-grown scaled n n' c (take (length arrays - 1) arrays) a.row_bits a.column_bits a.entries can below now.0
        (subst (λ (us : List Array). AllKept
        (called_rules (opening_of a).shape (length (take (length arrays - 1) arrays)) (opening_at (map opening_of us) c.id).shape (calling c))) e
        (subst (λ (m : ℕ). AllKept (called_rules (opening_of a).shape m (opening_at (map opening_of arrays) c.id).shape (calling c))) own
        now.1))
        (subst (WellFormed blocks blocks n n') e well) (subst (InEdition scaled) e written)
        (subst (λ (us : List Array). length us ≤ 1024) e most))

-- a record that keeps its rules behind some arrays makes them others, unless it ends them
pub grown : (scaled : Bool) (n n' : ℕ) (arrays : List Array) (r : Record) → Onward r → AllKept (rules_of (before scaled n n' arrays) r) →
    WellFormed blocks blocks n n' arrays → InEdition scaled arrays → length arrays ≤ 1024 →
    Grown scaled n n' (before scaled n n' arrays ++ (r ∷ []))
unfolding rules_of
grown scaled n n' arrays (Record.Head shape) onward kept well written most =
    absurd (omega (arith, eqb-true (length (before scaled n n' arrays)) 0 (not-false _ kept.0)))
grown scaled n n' arrays (Record.Sparse shape) onward kept well written most =
    opening-grown scaled n n' arrays (Record.Sparse shape) shape (cells []) refl
    (opening-fits scaled n n' arrays shape (cells []) tt kept) tt well written (opening-room scaled n n' arrays shape kept)
grown scaled n n' arrays (Record.Recursive shape) onward kept well written most =
    opening-grown scaled n n' arrays (Record.Recursive shape) shape (calls []) refl
    (opening-fits scaled n n' arrays shape (calls []) tt kept) tt well written (opening-room scaled n n' arrays shape kept)
grown scaled n n' arrays (Record.Cell c) onward kept well written most = cell-fits scaled n n' arrays well written most c kept
grown false n n' arrays (Record.Call c) onward kept well written most =
    call_fits false n n' arrays well written most (call_in c) refl (omega arith) (kept.0, kept.1.1)
grown true n n' arrays (Record.Call c) onward kept well written most = absurd (false≢true (sym kept.1.0))
grown scaled n n' arrays Record.End onward kept well written most = absurd (false≢true (sym onward))
grown scaled n n' arrays (Record.ScaledHead shape) onward kept well written most =
    absurd (omega (arith, eqb-true (length (before scaled n n' arrays)) 0 (not-false _ kept.0)))
grown false n n' arrays (Record.ScaledCall c) onward kept well written most = absurd (false≢true (sym kept.1.0))
grown true n n' arrays (Record.ScaledCall c) onward kept well written most =
    call_fits true n n' arrays well written most (scaled_call_in c) tt (leb-false _ _ kept.1.1.0) (kept.0, kept.1.1.1)
