-- Coordinates fixed one after the other: what is left of a table, and of a matrix.
-- Fixing the lowest coordinate of a table leaves a table of half the size, and fixing the row coordinates of a matrix leaves one row,
-- whatever the columns weigh.
use Prim.Native.Nat.{ℕ, suc, ◌*◌, ◌/◌, ◌%◌, ◌^◌}
use mathlib.Core.Bool.{cond}
use mathlib.Core.List.{List, [], ◌∷◌}
use mathlib.Core.Path.{◌≡◌, sym, ap, ap₂, ◌∙◌}
use native.Mathlib.Nat.{pow-succ'}
use native.Mathlib.Omega.{arith}
use lib.Dec.{eqb}
use lib.ListN.{length}
use Rattle.algebra.specs.Arithmetic.{Arithmetic, sum_below}
use Rattle.algebra.specs.Field.{Ring}
use Rattle.algebra.proofs.Lines.{line}
use Rattle.algebra.proofs.Rings.{nought-add, add-mul}
use Rattle.algebra.proofs.Sums.{sum_same, sum-mul, sum-pairs, sum-swap}
use Rattle.multilinear.specs.Extension.{weighted}
use Rattle.multilinear.specs.Matrix.{Matrix}
use Rattle.multilinear.specs.Weight.{weight}

module _ (𝓐 : Arithmetic) where
  open 𝓐 use {Carrier, mul}

  -- the extension of a table, a value at each number of as many bits as there are coordinates
  abbrev pub table_at : (ℕ → Carrier) → List Carrier → Carrier
  table_at t coordinates = sum_below 𝓐 (2 ^ length coordinates) (λ x. mul (t x) (weight 𝓐 x coordinates))

  -- the row that is left of a matrix when its row coordinates are fixed
  abbrev pub row_at : Matrix 𝓐 → List Carrier → ℕ → Carrier
  row_at m rows y = table_at (λ x. m x y) rows

  -- the table whose lowest coordinate is fixed at r
  abbrev pub halved : Carrier → (ℕ → Carrier) → ℕ → Carrier
  halved r t x = line 𝓐 (t (2 * x)) (t (suc (2 * x))) r

module _ (𝓐 : Arithmetic) (𝓡 : Ring 𝓐) where
  open 𝓐 use {Carrier, unit, add, sub, mul}
  open 𝓡 use {Valid, valid_mul, mul_assoc, mul-unit}

  pub table_none : (t : ℕ → Carrier) → Valid (t 0) → table_at 𝓐 t [] ≡ t 0
  unfolding sum_below weight
  table_none t ok = nought-add 𝓐 𝓡 (mul (t 0) unit) (valid_mul (t 0) unit) ∙ mul-unit (t 0) ok

  -- the terms of 2·x and of 2·x + 1, which differ in the lowest bit, together
  pair : (t : ℕ → Carrier) (r : Carrier) (rest : List Carrier) (x : ℕ) →
      add (mul (t (2 * x)) (weight 𝓐 (2 * x) (r ∷ rest))) (mul (t (suc (2 * x))) (weight 𝓐 (suc (2 * x)) (r ∷ rest)))
      ≡ mul (halved 𝓐 r t x) (weight 𝓐 x rest)
  unfolding line weight
  pair t r rest x =
      ap₂ (λ (v : Carrier) (w : Carrier). add (mul (t (2 * x)) v) (mul (t (suc (2 * x))) w)) low high
      ∙ ap₂ add (sym (mul_assoc (t (2 * x)) (sub unit r) (weight 𝓐 x rest))) (sym (mul_assoc (t (suc (2 * x))) r (weight 𝓐 x rest)))
      ∙ sym (add-mul 𝓐 𝓡 (mul (t (2 * x)) (sub unit r)) (mul (t (suc (2 * x))) r) (weight 𝓐 x rest))
    where
      weighs : (a bit half : ℕ) → a % 2 ≡ bit → a / 2 ≡ half →
          mul (cond (eqb (a % 2) 1) r (sub unit r)) (weight 𝓐 (a / 2) rest)
          ≡ mul (cond (eqb bit 1) r (sub unit r)) (weight 𝓐 half rest)
      weighs a bit half = ap₂ (λ (b : ℕ) (h : ℕ). mul (cond (eqb b 1) r (sub unit r)) (weight 𝓐 h rest))

      low : weight 𝓐 (2 * x) (r ∷ rest) ≡ mul (sub unit r) (weight 𝓐 x rest)
      low = weighs (2 * x) 0 x (omega arith) (omega arith)

      high : weight 𝓐 (suc (2 * x)) (r ∷ rest) ≡ mul r (weight 𝓐 x rest)
      high = weighs (suc (2 * x)) 1 x (omega arith) (omega arith)

  pub table-halved : (t : ℕ → Carrier) (r : Carrier) (rest : List Carrier) → table_at 𝓐 t (r ∷ rest) ≡ table_at 𝓐 (halved 𝓐 r t) rest
  table-halved t r rest =
      ap (λ (n : ℕ). sum_below 𝓐 n (λ x. mul (t x) (weight 𝓐 x (r ∷ rest)))) (pow-succ' 2 (length rest))
      ∙ sum-pairs 𝓐 𝓡 (2 ^ length rest) (λ x. mul (t x) (weight 𝓐 x (r ∷ rest)))
      ∙ sum_same 𝓐 (2 ^ length rest) _ _ (λ x l. pair t r rest x)

  -- at multilinear column weights this is the extension of the row that is left
  pub rows-fixed : (m : Matrix 𝓐) (rows : List Carrier) (N' : ℕ) (w' : ℕ → Carrier) →
      weighted 𝓐 m (2 ^ length rows) N' (λ x. weight 𝓐 x rows) w' ≡ sum_below 𝓐 N' (λ y. mul (row_at 𝓐 m rows y) (w' y))
  unfolding weighted
  rows-fixed m rows N' w' =
      sum-swap 𝓐 𝓡 (2 ^ length rows) N' (λ x y. mul (mul (m x y) (weight 𝓐 x rows)) (w' y))
      ∙ sum_same 𝓐 N' _ _ (λ y l. sum-mul 𝓐 𝓡 (2 ^ length rows) (λ x. mul (m x y) (weight 𝓐 x rows)) (w' y))
