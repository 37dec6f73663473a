-- Outside the 2^k rows and 2^k' columns of its shape an array's matrix is zero: no cell lies there, and no call reaches there.
use Prim.Native.Nat.{ℕ, ◌^◌, ◌≤◌, ◌<◌}
use mathlib.Core.List.{List, [], ◌∷◌, map}
use mathlib.Core.Logic.{◌⊎◌, inl, inr}
use mathlib.Core.Path.{◌≡◌, refl, ap₂, ◌∙◌}
use native.Mathlib.Omega.{arith}
use lib.ListN.{length}
use Rattle.algebra.specs.Arithmetic.{Arithmetic}
use Rattle.algebra.specs.Field.{Ring}
use Rattle.multilinear.specs.Matrix.{Matrix}
use Rattle.multilinear.proofs.MatrixZeros.{within-behind, place-row-other, place-column-other, moved-row-outside, moved-column-outside}
use Rattle.arrays.specs.Arrays.{Values, Cell, Call, Entries, cells, calls, Array, array_at}
use Rattle.arrays.specs.Dense.{cell_matrix, call_matrix, summed, entries_matrix, dense}
use Rattle.arrays.specs.Placing.{Placing, Within}
use Rattle.arrays.specs.WellFormed.{Each, CellFits, CallFits, EntriesFit, WellFormed}
use Rattle.arrays.proofs.DenseEquation.{dense-is}

module _ (𝓐 : Arithmetic) (𝓡 : Ring 𝓐) (embed : ℕ → 𝓐.Carrier) (v : Values → ℕ) (P P' : Placing)
    (rows : Within P) (columns : Within P') (arrays : List Array) where
  open 𝓐 use {nought, add}
  open 𝓡 use {valid_nought, add-nought}

  module _ (x y : ℕ) where
    summed-nought : {E : Type 0} (Q : E → Type 0) (matrix : E → Matrix 𝓐) → ((e : E) → Q e → matrix e x y ≡ nought) →
        (list : List E) → Each Q list → summed 𝓐 (map matrix list) x y ≡ nought
    unfolding summed
    summed-nought Q matrix zeros [] each = refl
    summed-nought Q matrix zeros (e ∷ list) each =
        ap₂ add (zeros e each.0) (summed-nought Q matrix zeros list each.1) ∙ add-nought nought valid_nought

    module _ (k k' : ℕ) (outside : (2 ^ k ≤ x) ⊎ (2 ^ k' ≤ y)) where
      cell-outside : (cell : Cell) → CellFits k k' cell → cell_matrix 𝓐 embed v cell x y ≡ nought
      cell-outside cell fits = elsewhere outside
        where
          elsewhere : (2 ^ k ≤ x) ⊎ (2 ^ k' ≤ y) → cell_matrix 𝓐 embed v cell x y ≡ nought
          elsewhere (inl l) =
              place-row-other 𝓐 cell.row cell.column (embed (v cell.values)) x y
              (λ e. omega (arith, fits.row_inside))
          elsewhere (inr l) =
              place-column-other 𝓐 cell.row cell.column (embed (v cell.values)) x y
              (λ e. omega (arith, fits.column_inside))

      call-outside : (i : ℕ) (m : Matrix 𝓐) (call : Call) → CallFits P P' arrays i k k' call →
          call_matrix 𝓐 embed P P' (array_at arrays call.id) m call x y ≡ nought
      call-outside i m call fits = elsewhere outside
        where
          K : ℕ
          K = (array_at arrays call.id).row_bits

          K' : ℕ
          K' = (array_at arrays call.id).column_bits

          s : ℕ
          s = P.start K call.down

          s' : ℕ
          s' = P'.start K' call.right

          elsewhere : (2 ^ k ≤ x) ⊎ (2 ^ k' ≤ y) → call_matrix 𝓐 embed P P' (array_at arrays call.id) m call x y ≡ nought
          elsewhere (inl l) =
              moved-row-outside 𝓐 _ (2 ^ K) (2 ^ K') s s' x y
              (within-behind s (2 ^ K) x (omega (arith, rows k K call.down fits.rows_fit fits.down_inside)))
          elsewhere (inr l) =
              moved-column-outside 𝓐 _ (2 ^ K) (2 ^ K') s s' x y
              (within-behind s' (2 ^ K') y (omega (arith, columns k' K' call.right fits.columns_fit fits.right_inside)))

      entries-outside : (i : ℕ) (m : ℕ → Matrix 𝓐) (entries : Entries) → EntriesFit P P' arrays i k k' entries →
          entries_matrix 𝓐 embed v P P' arrays m entries x y ≡ nought
      unfolding entries_matrix
      entries-outside i m (cells list) fit = summed-nought (CellFits k k') (cell_matrix 𝓐 embed v) cell-outside list fit
      entries-outside i m (calls list) fit =
          summed-nought (CallFits P P' arrays i k k')
          (λ call. call_matrix 𝓐 embed P P' (array_at arrays call.id) (m call.id) call)
          (λ call. call-outside i (m call.id) call) list fit

  pub dense-outside : (n n' : ℕ) → WellFormed P P' n n' arrays → (i : ℕ) → i < length arrays → (x y : ℕ) →
      (2 ^ (array_at arrays i).row_bits ≤ x) ⊎ (2 ^ (array_at arrays i).column_bits ≤ y) →
      dense 𝓐 embed v P P' arrays i x y ≡ nought
  dense-outside n n' well i l x y outside =
      dense-is 𝓐 embed v P P' arrays n n' well i l x y
      ∙ entries-outside x y (array_at arrays i).row_bits (array_at arrays i).column_bits outside
      i (dense 𝓐 embed v P P' arrays) (array_at arrays i).entries (well.arrays_fit i l).entries_fit
