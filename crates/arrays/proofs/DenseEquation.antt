-- The dense form is what the paper's equation says: each array's matrix is the sum over its entries.
-- A call takes the called array's matrix. The equation holds, and it determines the matrices.
use Prim.Native.Nat.{ℕ, zero, suc, ◌≤◌, ◌<◌}
use mathlib.Core.List.{List, [], ◌∷◌}
use mathlib.Core.Path.{◌≡◌, refl, sym, ap, ◌∙◌}
use native.Mathlib.Omega.{arith}
use lib.ListN.{length}
use Rattle.algebra.specs.Arithmetic.{Arithmetic}
use Rattle.algebra.specs.Field.{Ring}
use Rattle.multilinear.specs.Matrix.{Matrix, noughts}
use Rattle.arrays.specs.Arrays.{Values, Entries, cells, calls, Array, array_at}
use Rattle.arrays.specs.Dense.{call_matrix, summed, entries_matrix, matrix_at, matrices_below, dense}
use Rattle.arrays.specs.Placing.{Placing}
use Rattle.arrays.specs.WellFormed.{CallFits, EntriesFit, WellFormed}
use Rattle.arrays.proofs.EachElement.{each-map-same}
use Rattle.arrays.proofs.GrowingLists.{grown-now, grown-prefix, grown-each}

module _ (𝓐 : Arithmetic) (embed : ℕ → 𝓐.Carrier) (v : Values → ℕ) (P P' : Placing) (arrays : List Array) where
  abbrev next : ℕ → Matrix 𝓐
  next n = entries_matrix 𝓐 embed v P P' arrays (matrix_at 𝓐 (matrices_below 𝓐 embed v P P' arrays n)) (array_at arrays n).entries

  matrix-now : (j m : ℕ) → j < m → matrix_at 𝓐 (matrices_below 𝓐 embed v P P' arrays m) j ≡ next j
  unfolding matrices_below
  matrix-now = grown-now (noughts 𝓐) (matrices_below 𝓐 embed v P P' arrays) next refl (λ n. refl)

  matrices-prefix : (j n m : ℕ) → j < n → n ≤ m →
      matrix_at 𝓐 (matrices_below 𝓐 embed v P P' arrays n) j ≡ matrix_at 𝓐 (matrices_below 𝓐 embed v P P' arrays m) j
  unfolding matrices_below
  matrices-prefix = grown-prefix (noughts 𝓐) (matrices_below 𝓐 embed v P P' arrays) next refl (λ n. refl)

  -- the matrix of array i takes those of earlier arrays alone
  entries-same : (i k k' : ℕ) (m m' : ℕ → Matrix 𝓐) → ((j : ℕ) → j < i → m j ≡ m' j) →
      (entries : Entries) → EntriesFit P P' arrays i k k' entries →
      entries_matrix 𝓐 embed v P P' arrays m entries ≡ entries_matrix 𝓐 embed v P P' arrays m' entries
  unfolding entries_matrix
  entries-same i k k' m m' same (cells list) fit = refl
  entries-same i k k' m m' same (calls list) fit =
      ap (summed 𝓐)
      (each-map-same (CallFits P P' arrays i k k')
      (λ call. call_matrix 𝓐 embed P P' (array_at arrays call.id) (m call.id) call)
      (λ call. call_matrix 𝓐 embed P P' (array_at arrays call.id) (m' call.id) call)
      (λ call fits. ap (λ (matrix : Matrix 𝓐). call_matrix 𝓐 embed P P' (array_at arrays call.id) matrix call)
      (same call.id fits.earlier))
      list fit)

  module _ (n n' : ℕ) (well : WellFormed P P' n n' arrays) where
    pub dense-is : (i : ℕ) → i < length arrays → (x y : ℕ) →
        dense 𝓐 embed v P P' arrays i x y
        ≡ entries_matrix 𝓐 embed v P P' arrays (dense 𝓐 embed v P P' arrays) (array_at arrays i).entries x y
    dense-is i l x y =
        ap (λ (m : Matrix 𝓐). m x y)
        (matrix-now i (length arrays) l
        ∙ entries-same i (array_at arrays i).row_bits (array_at arrays i).column_bits
        (matrix_at 𝓐 (matrices_below 𝓐 embed v P P' arrays i)) (dense 𝓐 embed v P P' arrays)
        (λ j earlier. matrices-prefix j i (length arrays) earlier (omega arith))
        (array_at arrays i).entries (well.arrays_fit i l).entries_fit)

    -- any matrices that satisfy the equation are the dense ones
    pub dense-only : (m : ℕ → Matrix 𝓐) →
        ((i : ℕ) → i < length arrays → (x y : ℕ) →
        m i x y ≡ entries_matrix 𝓐 embed v P P' arrays m (array_at arrays i).entries x y) →
        (i : ℕ) → i < length arrays → (x y : ℕ) → m i x y ≡ dense 𝓐 embed v P P' arrays i x y
    dense-only m equation i l = up_to (length arrays) i l l
      where
        up_to : (bound i : ℕ) → i < bound → i < length arrays → (x y : ℕ) → m i x y ≡ dense 𝓐 embed v P P' arrays i x y
        up_to zero i b l x y = absurd (omega arith)
        up_to (suc bound) i b l x y =
            equation i l x y
            ∙ ap (λ (m : Matrix 𝓐). m x y)
            (entries-same i (array_at arrays i).row_bits (array_at arrays i).column_bits m (dense 𝓐 embed v P P' arrays)
            (λ j earlier s x y. up_to bound j (omega arith) (omega arith) x y s)
            (array_at arrays i).entries (well.arrays_fit i l).entries_fit)
            ∙ sym (dense-is i l x y)

module _ (𝓐 : Arithmetic) (𝓡 : Ring 𝓐) (embed : ℕ → 𝓐.Carrier) (v : Values → ℕ) (P P' : Placing) (arrays : List Array) where
  open 𝓡 use {Valid, valid_nought, valid_add}

  summed-valid : (matrices : List (Matrix 𝓐)) (x y : ℕ) → Valid (summed 𝓐 matrices x y)
  unfolding summed
  summed-valid [] x y = valid_nought
  summed-valid (m ∷ matrices) x y = valid_add (m x y) (summed 𝓐 matrices x y)

  entries-valid : (m : ℕ → Matrix 𝓐) (entries : Entries) (x y : ℕ) → Valid (entries_matrix 𝓐 embed v P P' arrays m entries x y)
  unfolding entries_matrix
  entries-valid m (cells list) = summed-valid _
  entries-valid m (calls list) = summed-valid _

  pub dense-valid : (i x y : ℕ) → Valid (dense 𝓐 embed v P P' arrays i x y)
  unfolding matrices_below
  dense-valid i x y =
      grown-each (noughts 𝓐) (matrices_below 𝓐 embed v P P' arrays) (next 𝓐 embed v P P' arrays) refl (λ n. refl)
      (λ m. Valid (m x y)) valid_nought
      (λ n. entries-valid (matrix_at 𝓐 (matrices_below 𝓐 embed v P P' arrays n)) (array_at arrays n).entries x y)
      (length arrays) i
