-- What entries weigh (004, Lemmas 1 and 2): a cell its term, a call its term of what the called matrix weighs.
-- The terms of a list, added up, are what the sum of its matrices weighs.
use Prim.Native.Nat.{ℕ, ◌^◌}
use mathlib.Core.List.{List, [], ◌∷◌, map, foldl}
use mathlib.Core.Path.{◌≡◌, sym, ap, ◌∙◌}
use Rattle.algebra.specs.Arithmetic.{Arithmetic}
use Rattle.algebra.specs.Field.{Ring}
use Rattle.algebra.proofs.Rings.{nought-add}
use Rattle.multilinear.specs.Extension.{weighted}
use Rattle.multilinear.specs.Matrix.{Matrix, scaled}
use Rattle.multilinear.proofs.WeightedSums.{weighted-valid, weighted-nought, weighted-add, weighted-scaled, weighted-place, weighted-moved}
use Rattle.arrays.specs.Arrays.{Values, Cell, Call, Array, array_at}
use Rattle.arrays.specs.Dense.{cell_matrix, call_matrix, summed}
use Rattle.arrays.specs.Pass.{cell_term, call_term}
use Rattle.arrays.specs.Placing.{Placing}
use Rattle.arrays.specs.Side.{Side, Splits}
use Rattle.arrays.specs.WellFormed.{Each, CellFits, CallFits}

module _ (𝓐 : Arithmetic) (𝓡 : Ring 𝓐) where
  open 𝓐 use {Carrier, nought, add, mul}
  open 𝓡 use {Valid, valid_nought, valid_add, add_assoc, add-nought, mul_comm, mul_assoc}

  module _ (N N' : ℕ) (w w' : ℕ → Carrier) {E : Type 0} (P : E → Type 0) (term : E → Carrier) (matrix : E → Matrix 𝓐)
      (weighs : (e : E) → P e → term e ≡ weighted 𝓐 (matrix e) N N' w w') where
    abbrev whole : List E → Carrier
    whole list = weighted 𝓐 (summed 𝓐 (map matrix list)) N N' w w'

    terms-add : (list : List E) → Each P list → (sum : Carrier) → Valid sum →
        foldl add sum (map term list) ≡ add sum (whole list)
    unfolding summed
    terms-add [] each sum ok = sym (ap (add sum) (weighted-nought 𝓐 𝓡 N N' w w') ∙ add-nought sum ok)
    terms-add (e ∷ list) each sum ok =
        terms-add list each.1 (add sum (term e)) (valid_add sum (term e))
        ∙ add_assoc sum (term e) (whole list)
        ∙ ap (add sum)
        (ap (λ (t : Carrier). add t (whole list)) (weighs e each.0)
        ∙ sym (weighted-add 𝓐 𝓡 N N' w w' (matrix e) (summed 𝓐 (map matrix list))))

    pub terms-weigh : (list : List E) → Each P list →
        foldl add nought (map term list) ≡ weighted 𝓐 (summed 𝓐 (map matrix list)) N N' w w'
    terms-weigh list each =
        terms-add list each nought valid_nought
        ∙ nought-add 𝓐 𝓡 (whole list) (weighted-valid 𝓐 𝓡 N N' w w' (summed 𝓐 (map matrix list)))

  pub cell-weighs : (embed : ℕ → Carrier) (v : Values → ℕ) (S S' : Side 𝓐) (k k' : ℕ) (cell : Cell) → CellFits k k' cell →
      cell_term 𝓐 embed v S S' k k' cell
      ≡ weighted 𝓐 (cell_matrix 𝓐 embed v cell) (2 ^ k) (2 ^ k') (S.weigh k) (S'.weigh k')
  cell-weighs embed v S S' k k' cell fits =
      sym (mul_assoc (embed (v cell.values)) (S.weigh k cell.row) (S'.weigh k' cell.column))
      ∙ sym (weighted-place 𝓐 𝓡 (2 ^ k) (2 ^ k') (S.weigh k) (S'.weigh k') cell.row cell.column (embed (v cell.values))
      fits.row_inside fits.column_inside)

  regroup : (value a g g' : Carrier) → mul value (mul a (mul g g')) ≡ mul (mul (mul a value) g) g'
  regroup value a g g' =
      sym (mul_assoc value a (mul g g'))
      ∙ ap (λ (x : Carrier). mul x (mul g g')) (mul_comm value a)
      ∙ sym (mul_assoc (mul a value) g g')

  -- P and P' place the calls, S and S' weigh rows and columns
  pub call-weighs : (embed : ℕ → Carrier) (P P' : Placing) (S S' : Side 𝓐) → Splits 𝓐 P S → Splits 𝓐 P' S' →
      (arrays : List Array) (i k k' : ℕ) (m : Matrix 𝓐) (call : Call) → CallFits P P' arrays i k k' call →
      call_term 𝓐 embed S S' k k' (array_at arrays call.id)
      (weighted 𝓐 m (2 ^ (array_at arrays call.id).row_bits) (2 ^ (array_at arrays call.id).column_bits)
      (S.weigh (array_at arrays call.id).row_bits) (S'.weigh (array_at arrays call.id).column_bits)) call
      ≡ weighted 𝓐 (call_matrix 𝓐 embed P P' (array_at arrays call.id) m call) (2 ^ k) (2 ^ k') (S.weigh k) (S'.weigh k')
  call-weighs embed P P' S S' rows columns arrays i k k' m call fits =
      regroup (weighted 𝓐 m (2 ^ K) (2 ^ K') (S.weigh K) (S'.weigh K')) a g g'
      ∙ ap (λ (value : Carrier). mul (mul value g) g')
      (sym (weighted-scaled 𝓐 𝓡 (2 ^ K) (2 ^ K') (S.weigh K) (S'.weigh K') a m))
      ∙ sym (weighted-moved 𝓐 𝓡 (2 ^ k) (2 ^ k') (S.weigh k) (S'.weigh k') (scaled 𝓐 a m) (2 ^ K) (2 ^ K')
      (P.start K call.down) (P'.start K' call.right) (S.weigh K) (S'.weigh K') g g'
      (rows.within k K call.down fits.rows_fit fits.down_inside)
      (columns.within k' K' call.right fits.columns_fit fits.right_inside)
      (λ z l. rows.splits k K call.down z fits.rows_fit l)
      (λ z l. columns.splits k' K' call.right z fits.columns_fit l))
    where
      K : ℕ
      K = (array_at arrays call.id).row_bits

      K' : ℕ
      K' = (array_at arrays call.id).column_bits

      a : Carrier
      a = embed call.factor

      g : Carrier
      g = S.factor k K call.down

      g' : Carrier
      g' = S'.factor k' K' call.right
