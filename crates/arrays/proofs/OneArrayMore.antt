-- Well-formed arrays with one array more: the one that is added is held to those before it alone.
use Prim.Native.Nat.{ℕ, suc, ◌≤◌, ◌<◌}
use mathlib.Core.List.{List, [], ◌∷◌, ◌++◌}
use mathlib.Core.Path.{◌≡◌, sym, subst}
use native.Mathlib.Decide.{dec_le}
use native.Mathlib.Omega.{arith}
use lib.ListN.{length, length-append, get_or-append}
use lib.Seq.{get_or-append_seam}
use Rattle.arrays.specs.Arrays.{Entries, cells, calls, Array, array_at}
use Rattle.arrays.specs.Placing.{Placing}
use Rattle.arrays.specs.WellFormed.{CallFits, EntriesFit, ArrayFits, WellFormed}
use Rattle.arrays.proofs.EachElement.{each_to}

module _ (P P' : Placing) where
  -- entries are held to the earlier arrays alone
  entries-same : (arrays others : List Array) (i k k' : ℕ) (entries : Entries) →
      ((j : ℕ) → j < i → array_at arrays j ≡ array_at others j) →
      EntriesFit P P' arrays i k k' entries → EntriesFit P P' others i k k' entries
  entries-same arrays others i k k' (cells list) same fit = fit
  entries-same arrays others i k k' (calls list) same fit =
      each_to (CallFits P P' arrays i k k') (CallFits P P' others i k k')
      (λ call fits.
      let e = same call.id fits.earlier in
      record {
        factor_below = fits.factor_below;
        earlier = fits.earlier;
        rows_fit = subst (λ (a : Array). a.row_bits ≤ k) e fits.rows_fit;
        columns_fit = subst (λ (a : Array). a.column_bits ≤ k') e fits.columns_fit;
        down_inside = subst (λ (a : Array). call.down < P.positions k a.row_bits) e fits.down_inside;
        right_inside = subst (λ (a : Array). call.right < P'.positions k' a.column_bits) e fits.right_inside;
      })
      list fit

  fits-same : (arrays others : List Array) (n n' i : ℕ) (a : Array) →
      ((j : ℕ) → j < i → array_at arrays j ≡ array_at others j) →
      ArrayFits P P' arrays n n' i a → ArrayFits P P' others n n' i a
  fits-same arrays others n n' i a same fits =
      record {
        rows_at_most = fits.rows_at_most;
        columns_at_most = fits.columns_at_most;
        entries_fit = entries-same arrays others i a.row_bits a.column_bits a.entries same fits.entries_fit;
      }

  module _ (n n' : ℕ) (arrays : List Array) (a : Array) where
    front : (j : ℕ) → j < length arrays → array_at arrays j ≡ array_at (arrays ++ (a ∷ [])) j
    front j l = sym (get_or-append arrays (a ∷ []) _ j l)

    last : a ≡ array_at (arrays ++ (a ∷ [])) (length arrays)
    last = sym (get_or-append_seam arrays a [] _)

    pub array-added : WellFormed P P' n n' arrays → ArrayFits P P' arrays n n' (length arrays) a →
        WellFormed P P' n n' (arrays ++ (a ∷ []))
    array-added well fits =
        record {
          rows_at_most_30 = well.rows_at_most_30;
          columns_at_most_30 = well.columns_at_most_30;
          arrays_fit = λ i l. go i l (dec_le (suc i) (length arrays));
        }
      where
        go : (i : ℕ) → i < length (arrays ++ (a ∷ [])) → Dec (suc i ≤ length arrays) →
            ArrayFits P P' (arrays ++ (a ∷ [])) n n' i (array_at (arrays ++ (a ∷ [])) i)
        go i l (yes earlier) =
            subst (ArrayFits P P' (arrays ++ (a ∷ [])) n n' i) (front i earlier)
            (fits-same arrays (arrays ++ (a ∷ [])) n n' i (array_at arrays i) (λ j m. front j (omega arith)) (well.arrays_fit i earlier))
        go i l (no later) =
            let e : length arrays ≡ i = omega (arith, length-append arrays (a ∷ [])) in
            subst (λ (j : ℕ). ArrayFits P P' (arrays ++ (a ∷ [])) n n' j (array_at (arrays ++ (a ∷ [])) j)) e
            (subst (ArrayFits P P' (arrays ++ (a ∷ [])) n n' (length arrays)) last
            (fits-same arrays (arrays ++ (a ∷ [])) n n' (length arrays) a front fits))

    pub array-removed : WellFormed P P' n n' (arrays ++ (a ∷ [])) →
        WellFormed P P' n n' arrays × ArrayFits P P' arrays n n' (length arrays) a
    array-removed well = (
      record {
        rows_at_most_30 = well.rows_at_most_30;
        columns_at_most_30 = well.columns_at_most_30;
        arrays_fit = λ i l. subst (ArrayFits P P' arrays n n' i) (sym (front i l)) (back i (omega arith));
      },
      subst (ArrayFits P P' arrays n n' (length arrays)) (sym last) (back (length arrays) (omega arith)),
    )
      where
        back : (i : ℕ) → i ≤ length arrays → ArrayFits P P' arrays n n' i (array_at (arrays ++ (a ∷ [])) i)
        back i l =
            fits-same (arrays ++ (a ∷ [])) arrays n n' i (array_at (arrays ++ (a ∷ [])) i) (λ j m. sym (front j (omega arith)))
            (well.arrays_fit i (omega (arith, length-append arrays (a ∷ []))))
