-- The values of the pass are the extensions of the dense matrices (004, Lemma 2).
-- The last array's extensions at the bits of a place in it are its dense values.
use Prim.Native.Nat.{ℕ, ◌^◌, ◌≤◌, ◌<◌}
use mathlib.Core.List.{List}
use mathlib.Core.Path.{◌≡◌, refl, sym, ap, ap₂, subst, ◌∙◌}
use native.Mathlib.Omega.{arith}
use lib.ListN.{length, take}
use Rattle.algebra.specs.Arithmetic.{Arithmetic}
use Rattle.algebra.specs.Field.{Ring}
use Rattle.field.specs.Fp.{fp}
use Rattle.field.specs.Scalars.{Scalars, prime, Lawful}
use Rattle.field.proofs.FpField.{fp-ring}
use Rattle.multilinear.specs.Extension.{extension}
use Rattle.multilinear.specs.Matrix.{Matrix}
use Rattle.multilinear.specs.Weight.{weight, bits}
use Rattle.multilinear.proofs.Bits.{bits-take}
use Rattle.arrays.specs.Arrays.{Part, value_of, values_by, Array, array_at}
use Rattle.arrays.specs.Dense.{dense}
use Rattle.arrays.specs.Placing.{blocks}
use Rattle.arrays.specs.Side.{Side, coordinates, Splits}
use Rattle.arrays.specs.WellFormed.{WellFormed, LastOfShape}
use Rattle.arrays.proofs.DenseAtBits.{dense-at-bits}
use Rattle.arrays.proofs.Lemma2.{pass-extends-as}
use Rattle.arrays.proofs.Maps.{dense-map}
use Rattle.arrays.proofs.Parts.{values_same}
use Rattle.arrays.proofs.SidesSplit.{coordinates-split}
use Rattle.evaluation.specs.Cell.{dense_values}
use Rattle.evaluation.specs.Evaluate.{last_of, dense_of, values_at}
use Rattle.evaluation.specs.Inner.{passed_values}

-- A side weighs as coordinates do, over so many bits and fewer, and its weights split where calls are placed.
pub record AsCoordinates (𝓐 : Arithmetic) (n : ℕ) (r : List 𝓐.Carrier) (S : Side 𝓐) : Type 0 where
  pub splits : Splits 𝓐 blocks S
  pub weighs : (k x : ℕ) → k ≤ n → S.weigh k x ≡ weight 𝓐 x (take k r)

-- coordinates do themselves
pub coordinates-weigh : (𝓐 : Arithmetic) → Ring 𝓐 → (n : ℕ) (r : List 𝓐.Carrier) → AsCoordinates 𝓐 n r (coordinates 𝓐 r)
coordinates-weigh 𝓐 𝓡 n r = record { splits = coordinates-split 𝓐 𝓡 r; weighs = λ k x l. refl }

module _ (𝓢 : Scalars) (𝓛 : Lawful 𝓢) (arrays : List Array) (n n' : ℕ) (well : WellFormed blocks blocks n n' arrays) (i : ℕ)
    (l : i < length arrays) where
  -- the dense matrix in the larger field is that of the values there
  embedded : (part : Part) →
      ◌≡◌ {A = Matrix 𝓢.arithmetic} (λ x y. 𝓢.embed (dense_of arrays i part x y))
      (dense 𝓢.arithmetic 𝓢.embed (value_of part) blocks blocks arrays i)
  embedded part t x y =
      dense-map fp 𝓢.arithmetic 𝓢.embed 𝓛.respects (λ x. x) (value_of part) blocks blocks arrays n n' well i l x y t

  pub passed-extended : (rows columns : List ℕ) (S S' : Side 𝓢.arithmetic) → n ≤ length (𝓢.elements rows) →
      n' ≤ length (𝓢.elements columns) → AsCoordinates 𝓢.arithmetic n (𝓢.elements rows) S →
      AsCoordinates 𝓢.arithmetic n' (𝓢.elements columns) S' →
      passed_values 𝓢 arrays S S' i ≡ values_at 𝓢 arrays rows columns i
  passed-extended rows columns S S' enough enough' alike alike' =
      values_same _ _ (λ part.
      pass-extends-as 𝓢.arithmetic 𝓛.field.ring 𝓢.embed (value_of part) arrays
      (𝓢.elements rows) (𝓢.elements columns) S S' alike.splits alike'.splits n n' well enough enough' alike.weighs alike'.weighs i l
      ∙ ap (λ (m : Matrix 𝓢.arithmetic). extension 𝓢.arithmetic m (take (array_at arrays i).row_bits (𝓢.elements rows))
      (take (array_at arrays i).column_bits (𝓢.elements columns))) (sym (embedded part)))

-- ---- the field of p, at the bits of a place

module _ (arrays : List Array) (n n' : ℕ) (well : WellFormed blocks blocks n n' arrays) (i : ℕ) (l : i < length arrays) where
  -- an array takes no more bits of a number than the head has
  pub bits-enough : (m m' row column : ℕ) → n ≤ m → n' ≤ m' →
      values_at prime arrays (bits fp m row) (bits fp m' column) i ≡ values_at prime arrays (bits fp n row) (bits fp n' column) i
  bits-enough m m' row column enough enough' =
      ap₂ (λ (rows columns : List ℕ).
      values_by (λ part. extension fp (dense fp (λ x. x) (value_of part) blocks blocks arrays i) rows columns))
      (same (array_at arrays i).row_bits n m row (well.arrays_fit i l).rows_at_most enough)
      (same (array_at arrays i).column_bits n' m' column (well.arrays_fit i l).columns_at_most enough')
    where
      same : (k n m a : ℕ) → k ≤ n → n ≤ m → take k (bits fp m a) ≡ take k (bits fp n a)
      same k n m a fits more = bits-take fp k m a (omega arith) ∙ sym (bits-take fp k n a fits)

-- the last array, at the bits of a place in it
pub last-at-bits : (arrays : List Array) (n n' row column : ℕ) → WellFormed blocks blocks n n' arrays → LastOfShape n n' arrays →
    row < 2 ^ n → column < 2 ^ n' →
    values_at prime arrays (bits fp n row) (bits fp n' column) (last_of arrays) ≡ dense_values arrays (last_of arrays) row column
last-at-bits arrays n n' row column well last inside inside' =
    values_same _ _ (λ part.
    dense-at-bits fp fp-ring (λ x. x) (value_of part) arrays n n' well (last_of arrays) row column (omega (arith, last.some_array))
    (subst (λ (k : ℕ). row < 2 ^ k) (sym last.rows_equal) inside)
    (subst (λ (k : ℕ). column < 2 ^ k) (sym last.columns_equal) inside'))
