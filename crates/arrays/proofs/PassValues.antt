-- The values that the pass gives: each stays once it is added, and takes the values of earlier arrays alone.
use Prim.Native.Nat.{ℕ, ◌≤◌, ◌<◌}
use mathlib.Core.List.{List, [], ◌∷◌, foldl}
use mathlib.Core.Path.{◌≡◌, refl, ap}
use Rattle.algebra.specs.Arithmetic.{Arithmetic}
use Rattle.algebra.specs.Field.{Ring}
use Rattle.arrays.specs.Arrays.{Values, Entries, cells, calls, Array, array_at}
use Rattle.arrays.specs.Pass.{call_term, entries_terms, array_value, value_at, values_below}
use Rattle.arrays.specs.Placing.{Placing}
use Rattle.arrays.specs.Side.{Side}
use Rattle.arrays.specs.WellFormed.{CallFits, EntriesFit}
use Rattle.arrays.proofs.EachElement.{each-map-same}
use Rattle.arrays.proofs.GrowingLists.{grown-now, grown-prefix, grown-each}

module _ (𝓐 : Arithmetic) (embed : ℕ → 𝓐.Carrier) (v : Values → ℕ) (S S' : Side 𝓐) (arrays : List Array) where
  open 𝓐 use {Carrier, nought, add}

  abbrev next : ℕ → Carrier
  next n = array_value 𝓐 embed v S S' arrays (value_at 𝓐 (values_below 𝓐 embed v S S' arrays n)) (array_at arrays n)

  pub value-now : (j m : ℕ) → j < m → value_at 𝓐 (values_below 𝓐 embed v S S' arrays m) j
      ≡ array_value 𝓐 embed v S S' arrays (value_at 𝓐 (values_below 𝓐 embed v S S' arrays j)) (array_at arrays j)
  unfolding values_below
  value-now = grown-now nought (values_below 𝓐 embed v S S' arrays) next refl (λ n. refl)

  pub values-prefix : (j n m : ℕ) → j < n → n ≤ m →
      value_at 𝓐 (values_below 𝓐 embed v S S' arrays n) j ≡ value_at 𝓐 (values_below 𝓐 embed v S S' arrays m) j
  unfolding values_below
  values-prefix = grown-prefix nought (values_below 𝓐 embed v S S' arrays) next refl (λ n. refl)

  -- an array's value takes those of earlier arrays alone
  pub array-value-same : (P P' : Placing) (i : ℕ) (values values' : ℕ → Carrier) →
      ((j : ℕ) → j < i → values j ≡ values' j) → (array : Array) →
      EntriesFit P P' arrays i array.row_bits array.column_bits array.entries →
      array_value 𝓐 embed v S S' arrays values array ≡ array_value 𝓐 embed v S S' arrays values' array
  unfolding entries_terms
  array-value-same P P' i values values' same array fit = ap (foldl add nought) (terms-same array.entries fit)
    where
      k : ℕ
      k = array.row_bits

      k' : ℕ
      k' = array.column_bits

      terms-same : (entries : Entries) → EntriesFit P P' arrays i k k' entries →
          entries_terms 𝓐 embed v S S' k k' arrays values entries ≡ entries_terms 𝓐 embed v S S' k k' arrays values' entries
      terms-same (cells list) fit = refl
      terms-same (calls list) fit =
          each-map-same (CallFits P P' arrays i k k')
          (λ call. call_term 𝓐 embed S S' k k' (array_at arrays call.id) (values call.id) call)
          (λ call. call_term 𝓐 embed S S' k k' (array_at arrays call.id) (values' call.id) call)
          (λ call fits. ap (λ (value : Carrier). call_term 𝓐 embed S S' k k' (array_at arrays call.id) value call)
          (same call.id fits.earlier))
          list fit

module _ (𝓐 : Arithmetic) (𝓡 : Ring 𝓐) (embed : ℕ → 𝓐.Carrier) (v : Values → ℕ) (S S' : Side 𝓐) (arrays : List Array) where
  open 𝓐 use {Carrier, nought, add}
  open 𝓡 use {Valid, valid_nought, valid_add}

  added-valid : (sum : Carrier) → Valid sum → (terms : List Carrier) → Valid (foldl add sum terms)
  added-valid sum ok [] = ok
  added-valid sum ok (t ∷ terms) = added-valid (add sum t) (valid_add sum t) terms

  array-value-valid : (values : ℕ → Carrier) (array : Array) → Valid (array_value 𝓐 embed v S S' arrays values array)
  array-value-valid values array =
      added-valid nought valid_nought
      (entries_terms 𝓐 embed v S S' array.row_bits array.column_bits arrays values array.entries)

  pub value-valid : (n j : ℕ) → Valid (value_at 𝓐 (values_below 𝓐 embed v S S' arrays n) j)
  unfolding values_below
  value-valid =
      grown-each nought (values_below 𝓐 embed v S S' arrays) (next 𝓐 embed v S S' arrays) refl (λ n. refl) Valid valid_nought
      (λ n. array-value-valid (value_at 𝓐 (values_below 𝓐 embed v S S' arrays n)) (array_at arrays n))
