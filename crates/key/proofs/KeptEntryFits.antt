-- A cell or a call that keeps its rules is an entry more of the array that is open.
use Prim.Native.Nat.{ℕ, ◌≤◌, ◌<◌}
use mathlib.Core.Bool.{Bool, false}
use mathlib.Core.List.{List, [], ◌∷◌, ◌++◌, map, map-append}
use mathlib.Core.Path.{◌≡◌, ap, subst, ◌∙◌}
use native.Mathlib.Omega.{arith}
use borrow.Author.Tests.{ltb-false, leb-false, eqb-true, not-false}
use lib.ListN.{length, length-append, get_or-append}
use Rattle.records.specs.declared.Call.{Call as CallRecord}
use Rattle.records.specs.declared.Cell.{Cell as CellRecord}
use Rattle.records.specs.declared.Record.{Record}
use Rattle.field.specs.Fp.{p}
use Rattle.arrays.specs.Arrays.{Call, Entries, cells, calls, Array, array_at}
use Rattle.arrays.specs.Placing.{blocks}
use Rattle.arrays.specs.WellFormed.{CellFits, CallFits, WellFormed}
use Rattle.arrays.proofs.EachElement.{each_append}
use Rattle.arrays.proofs.OneArrayMore.{array-removed}
use Rattle.rules.specs.Inner.{AllKept}
use Rattle.key.specs.Before.{opening_at}
use Rattle.key.specs.Encoding.{cell_record, call_record, FactorIn, InEdition}
use Rattle.key.specs.KeyArrays.{cell_in}
use Rattle.rules.specs.Rules.{not_open, cell_rules, called_rules}
use Rattle.rules.specs.declared.Opening.{Opening}
use Rattle.key.proofs.ArrayOrEntryMore.{before, Grown, entry-grown}
use Rattle.key.proofs.ArraysBefore.{opening-at}
use Rattle.key.proofs.Encodings.{array_with, entries_kind, opening_of}

-- the record of a call without its factor
abbrev pub calling : Call → CallRecord
calling c = record { id = c.id; down = c.down; right = c.right }

module _ (scaled : Bool) (n n' : ℕ) where
  pub cell-grown : (arrays : List Array) (k k' : ℕ) (entries : Entries) (c : CellRecord) →
      AllKept (cell_rules (opening_of (array_with k k' entries)) c) →
      WellFormed blocks blocks n n' (arrays ++ (array_with k k' entries ∷ [])) →
      InEdition scaled (arrays ++ (array_with k k' entries ∷ [])) →
      length (arrays ++ (array_with k k' entries ∷ [])) ≤ 1024 →
      Grown scaled n n' (before scaled n n' (arrays ++ (array_with k k' entries ∷ [])) ++ (Record.Cell c ∷ []))
  cell-grown arrays k k' (calls list) c kept well written most = absurd (omega (arith, eqb-true 3 2 (not-false _ kept.0)))
  cell-grown arrays k k' (cells list) c kept well written most =
      let old = (array-removed blocks blocks n n' arrays (array_with k k' (cells list)) well).1 in
      entry-grown scaled n n' arrays k k' (cells list) (cells (list ++ (cell_in c ∷ []))) (Record.Cell c)
      (ap (λ (rest : List Record). Record.Sparse (record { rows = k; columns = k' }) ∷ rest)
      (map-append cell_record list (cell_in c ∷ [])))
      well written (λ any. any) most
      (record {
        rows_at_most = old.rows_at_most;
        columns_at_most = old.columns_at_most;
        entries_fit = each_append (CellFits k k') list (cell_in c ∷ []) old.entries_fit (
          record {
            row_inside = leb-false _ _ kept.1.0;
            column_inside = leb-false _ _ kept.1.1.0;
            a_below = leb-false _ _ kept.1.1.1.0;
            b_below = leb-false _ _ kept.1.1.1.1.0;
            c_below = leb-false _ _ kept.1.1.1.1.1.0;
          },
          tt,
        );
      })

  -- a call, in the edition that the records have
  pub call-grown : (c : Call) (arrays : List Array) (k k' : ℕ) (entries : Entries) → FactorIn scaled c.factor → c.factor < p →
      not_open 0x03 (entries_kind entries) ≡ false →
      AllKept
      (called_rules (record { rows = k; columns = k' }) (length arrays)
      (opening_at (map opening_of (arrays ++ (array_with k k' entries ∷ []))) c.id).shape (calling c)) →
      WellFormed blocks blocks n n' (arrays ++ (array_with k k' entries ∷ [])) →
      InEdition scaled (arrays ++ (array_with k k' entries ∷ [])) →
      length (arrays ++ (array_with k k' entries ∷ [])) ≤ 1024 →
      Grown scaled n n' (before scaled n n' (arrays ++ (array_with k k' entries ∷ [])) ++ (call_record scaled c ∷ []))
  call-grown c arrays k k' (cells list) can below recursive kept well written most = absurd (omega (arith, eqb-true 2 3 (not-false _ recursive)))
  call-grown c arrays k k' (calls list) can below recursive kept well written most =
      let old = (array-removed blocks blocks n n' arrays (array_with k k' (calls list)) well).1 in
      entry-grown scaled n n' arrays k k' (calls list) (calls (list ++ (c ∷ []))) (call_record scaled c)
      (ap (λ (rest : List Record). Record.Recursive (record { rows = k; columns = k' }) ∷ rest)
      (map-append (call_record scaled) list (c ∷ [])))
      well written (λ each. each_append (λ call. FactorIn scaled call.factor) list (c ∷ []) each (can, tt)) most
      (record {
        rows_at_most = old.rows_at_most;
        columns_at_most = old.columns_at_most;
        entries_fit = each_append (CallFits blocks blocks arrays (length arrays) k k') list (c ∷ []) old.entries_fit (fits, tt);
      })
    where
      earlier : c.id < length arrays
      earlier = leb-false _ _ kept.0

      called : opening_at (map opening_of (arrays ++ (array_with k k' (calls list) ∷ []))) c.id ≡ opening_of (array_at arrays c.id)
      called =
          opening-at (arrays ++ (array_with k k' (calls list) ∷ [])) c.id
          (omega (arith, earlier, length-append arrays (array_with k k' (calls list) ∷ [])))
          ∙ ap opening_of (get_or-append arrays (array_with k k' (calls list) ∷ []) _ c.id earlier)

      held : AllKept
          (called_rules (record { rows = k; columns = k' }) (length arrays) (opening_of (array_at arrays c.id)).shape (calling c))
      held =
          subst (λ (o : Opening). AllKept (called_rules (record { rows = k; columns = k' }) (length arrays) o.shape (calling c)))
          called kept

      fits : CallFits blocks blocks arrays (length arrays) k k' c
      fits =
          record {
            factor_below = below;
            earlier = earlier;
            rows_fit = ltb-false _ _ held.1.0;
            columns_fit = ltb-false _ _ held.1.1.0;
            down_inside = leb-false _ _ held.1.1.1.0;
            right_inside = leb-false _ _ held.1.1.1.1.0;
          }
