-- A point of bits is that of a row and a column: there the extensions of a key's dense matrices are the values that they hold.
use Prim.Native.Nat.{ℕ, ◌+◌, ◌^◌, ◌<◌}
use mathlib.Core.List.{List}
use mathlib.Core.Path.{◌≡◌, sym, ap, ap₂, subst, ◌∙◌}
use native.Mathlib.Omega.{arith}
use lib.ListN.{length, take, drop, length-drop}
use lib.Seq.{length-take-le}
use Rattle.algebra.specs.Points.{Below}
use Rattle.algebra.proofs.CoordinatesBelow.{below-take, below-drop}
use Rattle.field.specs.Fp.{fp}
use Rattle.field.specs.Scalars.{prime}
use Rattle.field.proofs.PrimeLawful.{prime-lawful}
use Rattle.multilinear.specs.Extension.{extension}
use Rattle.multilinear.specs.Weight.{bits}
use Rattle.multilinear.proofs.Extensions.{extension-bits}
use Rattle.arrays.specs.Arrays.{Part, value_of}
use Rattle.arrays.specs.Placing.{blocks}
use Rattle.arrays.proofs.DenseEquation.{dense-valid}
use Rattle.key.specs.KeyArrays.{key_arrays}
use Rattle.evaluation.specs.Evaluate.{last_of}
use Rattle.comparison.specs.AgreementBound.{last_dense}
use Rattle.comparison.proofs.FilledExtensions.{embedded}
use Rattle.location.specs.Locate.{from_bits}
use Rattle.location.proofs.NumbersFromBits.{from-below, bits-from}
use Rattle.multilinear.proofs.OneCoordinate.{jointly}

-- a point of bits, of which the first n are the rows'
module _ (n n' : ℕ) (point : List ℕ) (count : length point ≡ n + n') (are_bits : Below 2 point) where
  abbrev row : ℕ
  row = from_bits (take n point)

  abbrev column : ℕ
  column = from_bits (drop n point)

  rows-count : length (take n point) ≡ n
  rows-count = length-take-le n point (omega (arith, count))

  columns-count : length (drop n point) ≡ n'
  columns-count = length-drop n point ∙ omega (arith, count)

  pub row_bits : bits fp n (from_bits (take n point)) ≡ take n point
  row_bits = ap (λ (k : ℕ). bits fp k row) (sym rows-count) ∙ bits-from (take n point) (below-take 2 n point are_bits)

  pub column_bits : bits fp n' (from_bits (drop n point)) ≡ drop n point
  column_bits = ap (λ (k : ℕ). bits fp k column) (sym columns-count) ∙ bits-from (drop n point) (below-drop 2 n point are_bits)

  pub row_inside : from_bits (take n point) < 2 ^ n
  row_inside = subst (λ (k : ℕ). row < 2 ^ k) rows-count (from-below (take n point) (below-take 2 n point are_bits))

  pub column_inside : from_bits (drop n point) < 2 ^ n'
  column_inside = subst (λ (k : ℕ). column < 2 ^ k) columns-count (from-below (drop n point) (below-drop 2 n point are_bits))

  -- there the extensions are the dense values
  pub dense-there : (key : List ℕ) (part : Part) →
      jointly fp (embedded prime key part) n point ≡ last_dense key part (from_bits (take n point)) (from_bits (drop n point))
  dense-there key part =
      ap₂ (extension fp (embedded prime key part)) (sym row_bits) (sym column_bits)
      ∙ extension-bits fp prime-lawful.field.ring (embedded prime key part) n n' row column row_inside column_inside
      (dense-valid fp prime-lawful.field.ring (λ x. x) (value_of part) blocks blocks (key_arrays key) (last_of (key_arrays key)) row column)
