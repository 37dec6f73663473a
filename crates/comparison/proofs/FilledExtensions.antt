-- A key's triple in a comparison is the extensions of its dense matrices, filled with zeros, at the whole point (02, E7).
use Prim.Native.Nat.{ℕ, ◌^◌, ◌≤◌}
use mathlib.Core.List.{List}
use mathlib.Core.Logic.{◌⊎◌}
use mathlib.Core.Path.{◌≡◌, sym, ap, ap₂, ◌∙◌}
use native.Mathlib.Omega.{arith}
use lib.ListN.{take, drop}
use Rattle.refusal.specs.Outcome.{given}
use Rattle.field.specs.Fp.{fp}
use Rattle.field.specs.Scalars.{Scalars, Lawful}
use Rattle.field.proofs.FpField.{fp-ring}
use Rattle.multilinear.specs.Extension.{extension}
use Rattle.multilinear.specs.Matrix.{Matrix, moved}
use Rattle.multilinear.specs.Weight.{weight}
use Rattle.multilinear.proofs.Extensions.{extension-filled}
use Rattle.multilinear.proofs.MatrixZeros.{filled-same}
use Rattle.arrays.specs.Arrays.{Part, value_of, array_at}
use Rattle.arrays.specs.Placing.{blocks}
use Rattle.arrays.proofs.DenseOutsideShape.{dense-outside}
use Rattle.arrays.proofs.Parts.{value-by}
use Rattle.arrays.proofs.SidesSplit.{block_within}
use Rattle.key.specs.Accepted.{Accepted}
use Rattle.key.specs.Check.{checked_key}
use Rattle.key.specs.KeyArrays.{key_arrays}
use Rattle.key.specs.declared.Counts.{Counts}
use Rattle.key.proofs.Acceptance.{acceptance}
use Rattle.evaluation.specs.Evaluate.{last_of, last_values}
use Rattle.comparison.specs.AgreementBound.{last_dense}
use Rattle.comparison.specs.Filled.{filled_values}
use Rattle.comparison.specs.Inner.{Serves}
use Rattle.comparison.proofs.UsedCoordinates.{filled-whole}

-- the dense A, B or C of a key's last array, in a field
abbrev pub embedded : (𝓢 : Scalars) → List ℕ → Part → Matrix 𝓢.arithmetic
embedded 𝓢 key part x y = 𝓢.embed (last_dense key part x y)

module _ (key : List ℕ) (own : Counts) (accepted : checked_key key ≡ given own) where
  accepts : Accepted key own
  accepts = acceptance key own accepted

  -- beyond the 2^n rows and 2^n' columns of its head a key's dense matrices are zero
  pub dense-beyond : (part : Part) (x y : ℕ) → (2 ^ own.rows ≤ x) ⊎ (2 ^ own.columns ≤ y) → last_dense key part x y ≡ 0
  dense-beyond part x y beyond =
      let last = accepts.last_of_shape in
      dense-outside fp fp-ring (λ x. x) (value_of part) blocks blocks block_within block_within (key_arrays key) own.rows own.columns
      accepts.well_formed (last_of (key_arrays key)) (omega (arith, last.some_array)) x y
      (rw (last.rows_equal, last.columns_equal) beyond)

  -- so they are what they are where they are placed at position 0 of larger ones, with zeros elsewhere
  pub dense-filled : (part : Part) (x y : ℕ) →
      moved fp (last_dense key part) (2 ^ own.rows) (2 ^ own.columns) 0 0 x y ≡ last_dense key part x y
  dense-filled part = filled-same fp (last_dense key part) (2 ^ own.rows) (2 ^ own.columns) (dense-beyond part)

  module _ (𝓢 : Scalars) (𝓛 : Lawful 𝓢) (rows columns : List ℕ) (places : ℕ) (serves : Serves 𝓢 own rows columns places) where
    abbrev Element : Type 0
    Element = 𝓢.arithmetic.Carrier

    -- the values at the whole point are those at the key's own coordinates
    own-extension : (part : Part) → value_of part (last_values 𝓢 key rows columns)
        ≡ extension 𝓢.arithmetic (embedded 𝓢 key part) (take own.rows (𝓢.elements rows)) (take own.columns (𝓢.elements columns))
    own-extension part =
        let last = accepts.last_of_shape in
        let array = array_at (key_arrays key) (last_of (key_arrays key)) in
        value-by
        (λ q. extension 𝓢.arithmetic (embedded 𝓢 key q) (take array.row_bits (𝓢.elements rows))
        (take array.column_bits (𝓢.elements columns))) part
        ∙ ap₂ (λ (k k' : ℕ).
        extension 𝓢.arithmetic (embedded 𝓢 key part) (take k (𝓢.elements rows)) (take k' (𝓢.elements columns)))
        last.rows_equal last.columns_equal

    -- Here demand 2 enters: what is compared are the values of evaluate's contract, the extensions of the last array's dense
    -- matrices. All that follows is about those matrices, and nothing about the pass.
    pub filled-extends : (part : Part) → value_of part (filled_values 𝓢 key own rows columns)
        ≡ extension 𝓢.arithmetic (embedded 𝓢 key part) (𝓢.elements rows) (𝓢.elements columns)
    filled-extends part =
        let weights = 𝓢.arithmetic.mul (weight 𝓢.arithmetic 0 (drop own.rows (𝓢.elements rows)))
        (weight 𝓢.arithmetic 0 (drop own.columns (𝓢.elements columns))) in
        ap (value_of part) (filled-whole 𝓢 𝓛 key own accepted rows columns places serves)
        ∙ value-by (λ q. 𝓢.arithmetic.mul (value_of q (last_values 𝓢 key rows columns)) weights) part
        ∙ ap (λ (v : Element). 𝓢.arithmetic.mul v weights) (own-extension part)
        ∙ sym (extension-filled 𝓢.arithmetic 𝓛.field.ring (embedded 𝓢 key part) own.rows own.columns (𝓢.elements rows)
        (𝓢.elements columns) serves.rows_given.enough serves.columns_given.enough
        (λ x y beyond. ap 𝓢.embed (dense-beyond part x y beyond) ∙ 𝓛.respects.on_nought))
