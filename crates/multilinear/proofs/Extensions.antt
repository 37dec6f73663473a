-- The multilinear extension of a moved matrix (004, Lemma 1, evaluation), of a matrix filled with zeros (02, E7), and of any matrix at the
-- bits of a place.
use Prim.Native.Nat.{ℕ, ◌-◌, ◌*◌, ◌^◌, ◌≤◌, ◌<◌}
use mathlib.Core.List.{List}
use mathlib.Core.Logic.{◌⊎◌}
use mathlib.Core.Path.{◌≡◌, sym, ap, ap₂, ◌∙◌}
use native.Mathlib.Omega.{arith}
use lib.ListN.{length, take, drop}
use lib.Pow.{pow_pos}
use lib.Seq.{length-take-le}
use Rattle.algebra.specs.Arithmetic.{Arithmetic, sum_below}
use Rattle.algebra.specs.Field.{Ring}
use Rattle.algebra.proofs.Rings.{mul-nought, nought-mul}
use Rattle.multilinear.specs.Extension.{weighted, extension}
use Rattle.multilinear.specs.Matrix.{Matrix, moved}
use Rattle.multilinear.specs.Weight.{weight, bits}
use Rattle.multilinear.proofs.Bits.{bits-length, weight-bits-same, weight-bits-other}
use Rattle.multilinear.proofs.Blocks.{block-fits}
use Rattle.multilinear.proofs.MatrixZeros.{filled-same}
use Rattle.multilinear.proofs.WeightedSums.{weighted-same, weighted-moved}
use Rattle.multilinear.proofs.Weights.{weight-split}
use Rattle.multilinear.proofs.WindowSums.{sums-one}

module _ (𝓐 : Arithmetic) (𝓡 : Ring 𝓐) (m : Matrix 𝓐) where
  open 𝓐 use {Carrier, nought, unit, mul}
  open 𝓡 use {Valid, valid_mul, mul_assoc, mul-unit}

  -- a matrix of K row bits and K' column bits, moved down by a blocks of 2^K rows and right by a' blocks of 2^K' columns
  pub extension-moved : (K K' a a' : ℕ) (rows columns : List Carrier) → K ≤ length rows → K' ≤ length columns →
      a < 2 ^ (length rows - K) → a' < 2 ^ (length columns - K') →
      extension 𝓐 (moved 𝓐 m (2 ^ K) (2 ^ K') (a * 2 ^ K) (a' * 2 ^ K')) rows columns
      ≡ mul (mul (extension 𝓐 m (take K rows) (take K' columns)) (weight 𝓐 a (drop K rows))) (weight 𝓐 a' (drop K' columns))
  extension-moved K K' a a' rows columns fits fits' l l' =
      weighted-moved 𝓐 𝓡 (2 ^ length rows) (2 ^ length columns) (λ x. weight 𝓐 x rows) (λ y. weight 𝓐 y columns)
      m (2 ^ K) (2 ^ K') (a * 2 ^ K) (a' * 2 ^ K') (λ x. weight 𝓐 x (take K rows)) (λ y. weight 𝓐 y (take K' columns))
      (weight 𝓐 a (drop K rows)) (weight 𝓐 a' (drop K' columns))
      (block-fits (length rows) K a fits l) (block-fits (length columns) K' a' fits' l')
      (λ z lz. weight-split 𝓐 𝓡 K a z rows lz) (λ z lz. weight-split 𝓐 𝓡 K' a' z columns lz)
      ∙ ap₂ (λ (k : ℕ) (k' : ℕ). mul
      (mul (weighted 𝓐 m (2 ^ k) (2 ^ k') (λ x. weight 𝓐 x (take K rows)) (λ y. weight 𝓐 y (take K' columns)))
      (weight 𝓐 a (drop K rows))) (weight 𝓐 a' (drop K' columns)))
      (sym (length-take-le K rows fits)) (sym (length-take-le K' columns fits'))

  -- A matrix of K row bits and K' column bits, zero elsewhere: at more coordinates than its own its extension is that at its own, times
  -- eq([0]) of the others.
  pub extension-filled : (K K' : ℕ) (rows columns : List Carrier) → K ≤ length rows → K' ≤ length columns →
      ((x y : ℕ) → (2 ^ K ≤ x) ⊎ (2 ^ K' ≤ y) → m x y ≡ nought) →
      extension 𝓐 m rows columns
      ≡ mul (extension 𝓐 m (take K rows) (take K' columns)) (mul (weight 𝓐 0 (drop K rows)) (weight 𝓐 0 (drop K' columns)))
  extension-filled K K' rows columns fits fits' outside =
      let first : 0 * 2 ^ K ≡ 0 = omega arith in
      let first' : 0 * 2 ^ K' ≡ 0 = omega arith in
      weighted-same 𝓐 𝓡 _ _ _ _ m (moved 𝓐 m (2 ^ K) (2 ^ K') (0 * 2 ^ K) (0 * 2 ^ K'))
      (λ x y _ _. sym (rw (first, first') (filled-same 𝓐 m (2 ^ K) (2 ^ K') outside x y)))
      ∙ extension-moved K K' 0 0 rows columns fits fits' (pow_pos (length rows - K)) (pow_pos (length columns - K'))
      ∙ mul_assoc (extension 𝓐 m (take K rows) (take K' columns)) (weight 𝓐 0 (drop K rows)) (weight 𝓐 0 (drop K' columns))

  -- at the bits of row r and column c the extension is the matrix's value there
  pub extension-bits : (k k' r c : ℕ) → r < 2 ^ k → c < 2 ^ k' → Valid (m r c) →
      extension 𝓐 m (bits 𝓐 k r) (bits 𝓐 k' c) ≡ m r c
  unfolding weighted
  extension-bits k k' r c l l' ok =
      ap₂ (λ (n : ℕ) (n' : ℕ). sum_below 𝓐 (2 ^ n) (λ x. sum_below 𝓐 (2 ^ n') (term x))) (bits-length 𝓐 k r) (bits-length 𝓐 k' c)
      ∙ sums-one 𝓐 𝓡 (2 ^ k) (2 ^ k') r c term l l'
      (λ x y below other.
      ap (λ (w : Carrier). mul (mul (m x y) w) (column y)) (weight-bits-other 𝓐 𝓡 k x r below l other)
      ∙ ap (λ (v : Carrier). mul v (column y)) (mul-nought 𝓐 𝓡 (m x y)) ∙ nought-mul 𝓐 𝓡 (column y))
      (λ y below other.
      ap (mul (mul (m r y) (row r))) (weight-bits-other 𝓐 𝓡 k' y c below l' other) ∙ mul-nought 𝓐 𝓡 (mul (m r y) (row r)))
      (valid_mul (mul (m r c) (row r)) (column c))
      ∙ ap₂ (λ (w : Carrier) (w' : Carrier). mul (mul (m r c) w) w') (weight-bits-same 𝓐 𝓡 k r) (weight-bits-same 𝓐 𝓡 k' c)
      ∙ mul-unit (mul (m r c) unit) (valid_mul (m r c) unit) ∙ mul-unit (m r c) ok
    where
      row : ℕ → Carrier
      row x = weight 𝓐 x (bits 𝓐 k r)

      column : ℕ → Carrier
      column y = weight 𝓐 y (bits 𝓐 k' c)

      term : ℕ → ℕ → Carrier
      term x y = mul (mul (m x y) (row x)) (column y)
