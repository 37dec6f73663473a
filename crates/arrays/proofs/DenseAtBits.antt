-- At the bits of a row and a column, the extension of an array's dense form is the value that it holds there.
use Prim.Native.Nat.{ℕ, ◌^◌, ◌<◌}
use mathlib.Core.List.{List}
use mathlib.Core.Path.{◌≡◌, ap₂, ◌∙◌}
use lib.ListN.{length, take}
use Rattle.algebra.specs.Arithmetic.{Arithmetic}
use Rattle.algebra.specs.Field.{Ring}
use Rattle.multilinear.specs.Extension.{extension}
use Rattle.multilinear.specs.Weight.{bits}
use Rattle.multilinear.proofs.Bits.{bits-take}
use Rattle.multilinear.proofs.Extensions.{extension-bits}
use Rattle.arrays.specs.Arrays.{Values, Array, array_at}
use Rattle.arrays.specs.Dense.{dense}
use Rattle.arrays.specs.Placing.{blocks}
use Rattle.arrays.specs.WellFormed.{WellFormed}
use Rattle.arrays.proofs.DenseEquation.{dense-valid}

module _ (𝓐 : Arithmetic) (𝓡 : Ring 𝓐) (embed : ℕ → 𝓐.Carrier) (v : Values → ℕ) (arrays : List Array) (n n' : ℕ) where
  pub dense-at-bits : WellFormed blocks blocks n n' arrays → (i row column : ℕ) → i < length arrays →
      row < 2 ^ (array_at arrays i).row_bits → column < 2 ^ (array_at arrays i).column_bits →
      extension 𝓐 (dense 𝓐 embed v blocks blocks arrays i)
      (take (array_at arrays i).row_bits (bits 𝓐 n row)) (take (array_at arrays i).column_bits (bits 𝓐 n' column))
      ≡ dense 𝓐 embed v blocks blocks arrays i row column
  dense-at-bits well i row column l inside inside' =
      ap₂ (extension 𝓐 (dense 𝓐 embed v blocks blocks arrays i))
      (bits-take 𝓐 (array_at arrays i).row_bits n row (well.arrays_fit i l).rows_at_most)
      (bits-take 𝓐 (array_at arrays i).column_bits n' column (well.arrays_fit i l).columns_at_most)
      ∙ extension-bits 𝓐 𝓡 (dense 𝓐 embed v blocks blocks arrays i) (array_at arrays i).row_bits (array_at arrays i).column_bits
      row column inside inside' (dense-valid 𝓐 𝓡 embed v blocks blocks arrays i row column)
