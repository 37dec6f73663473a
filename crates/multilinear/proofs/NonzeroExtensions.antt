-- The extension of a matrix that is not zero is zero at few points.
-- Fixing a coordinate leaves a table that is not zero, except at one value of the coordinate at most.
use Prim.Native.Nat.{ℕ, zero, suc, ◌+◌, ◌-◌, ◌*◌, ◌/◌, ◌%◌, ◌^◌, ◌≤◌, ◌<◌}
use mathlib.Core.Bool.{Bool, true, cond}
use mathlib.Core.List.{List, [], ◌∷◌, ◌++◌, map, append-nil}
use mathlib.Core.Path.{◌≡◌, refl, sym, ap, ap₂, ◌∙◌}
use native.Mathlib.Decide.{ℕ_discrete}
use native.Mathlib.Nat.{le_of_eq, zero-add, suc-add, add-zero, mul_assoc, mul-one, one-mul, pow-zero, pow-succ', pow-suc}
use native.Mathlib.Omega.{arith}
use lib.ListN.{length, length-append}
use lib.Pow.{pow-add}
use lib.Seq.{take_at, drop_at}
use Rattle.algebra.specs.Arithmetic.{Arithmetic}
use Rattle.algebra.specs.Field.{FiniteField}
use Rattle.algebra.specs.Points.{count_points, Below}
use Rattle.algebra.proofs.CoordinatesBelow.{below-append}
use Rattle.algebra.proofs.Lines.{line-valid, line-total}
use Rattle.algebra.proofs.Sums.{sum-valid}
use Rattle.multilinear.specs.Agreement.{Differ, extension_at}
use Rattle.multilinear.specs.Extension.{extension}
use Rattle.multilinear.specs.Matrix.{Matrix, noughts}
use Rattle.multilinear.specs.Weight.{weight}
use Rattle.multilinear.proofs.FixedCoordinates.{table_at, row_at, halved, table_none, table-halved, rows-fixed}

module _ (𝓐 : Arithmetic) (𝓕 : FiniteField 𝓐) where
  open 𝓐 use {Carrier, nought}
  open 𝓕 use {ring, size, element}
  open ring use {Valid}

  -- x is one of the pair 2·(x / 2) and 2·(x / 2) + 1
  pair-some : (t : ℕ → Carrier) (x : ℕ) → (t x ≡ nought → ⊥) → t (2 * (x / 2)) ≡ nought → t (suc (2 * (x / 2))) ≡ nought → ⊥
  pair-some t x some low high = go (ℕ_discrete (x % 2) 0)
    where
      go : Dec (x % 2 ≡ 0) → ⊥
      go (yes even) = let e : x ≡ 2 * (x / 2) = omega arith in some (ap t e ∙ low)
      go (no odd) = let e : x ≡ suc (2 * (x / 2)) = omega arith in some (ap t e ∙ high)

  -- The share of one axis: a table of 2^n values is not nought, and wherever its extension at n coordinates is not nought, a
  -- test passes with B or more of the lists of k coordinates behind them. Then it passes at (size - 1)^n·B points or more.
  pub nonzero-axis : (n k B : ℕ) (t : ℕ → Carrier) → ((x : ℕ) → Valid (t x)) → (x : ℕ) → x < 2 ^ n → (t x ≡ nought → ⊥) →
      (test : List ℕ → Bool) →
      ((point : List ℕ) → length point ≡ n → Below size point → (table_at 𝓐 t (map element point) ≡ nought → ⊥) →
      B ≤ count_points size k (λ behind. test (point ++ behind))) →
      (size - 1) ^ n * B ≤ count_points size (n + k) test
  unfolding count_points
  nonzero-axis zero k B t ok x l some test passes =
      let e : x ≡ 0 = omega arith in
      rw (pow-zero, one-mul, zero-add) (passes [] refl tt (λ z. some (ap t e ∙ sym (table_none 𝓐 ring t (ok 0)) ∙ z)))
  nonzero-axis (suc n) k B t ok x l some test passes =
      rw (pow-succ', mul_assoc, suc-add)
      (line-total 𝓐 𝓕 (t (2 * (x / 2))) (t (suc (2 * (x / 2)))) (ok (2 * (x / 2))) (ok (suc (2 * (x / 2)))) (pair-some t x some)
      ((size - 1) ^ n * B) (λ i. count_points size (n + k) (λ point. test (i ∷ point)))
      (λ i below left. nonzero-axis n k B (halved 𝓐 (element i) t)
      (λ z. line-valid 𝓐 ring (t (2 * z)) (t (suc (2 * z))) (element i)) (x / 2) (omega (arith, pow-suc 2 n)) left
      (λ point. test (i ∷ point))
      (λ point e b rest. passes (i ∷ point) (ap suc e) (below, b)
      (λ z. rest (sym (table-halved 𝓐 ring t (element i) (map element point)) ∙ z)))))

  -- with no coordinates behind them: a test that passes wherever the extension of such a table is not nought
  nonzero-table : (n : ℕ) (t : ℕ → Carrier) → ((x : ℕ) → Valid (t x)) → (x : ℕ) → x < 2 ^ n → (t x ≡ nought → ⊥) →
      (test : List ℕ → Bool) →
      ((point : List ℕ) → length point ≡ n → Below size point → (table_at 𝓐 t (map element point) ≡ nought → ⊥) → test point ≡ true) →
      (size - 1) ^ n ≤ count_points size n test
  unfolding count_points
  nonzero-table n t ok x l some test passes =
      rw (mul-one, add-zero) at
      (nonzero-axis n 0 1 t ok x l some test
      (λ point e b left. le_of_eq (sym (ap (λ (c : Bool). cond c 1 0) (ap test (append-nil point) ∙ passes point e b left)))))

  -- both axes: the rows' share, and then that of the row which is left
  pub nonzero-matrix : (n n' : ℕ) (m : Matrix 𝓐) → ((x y : ℕ) → Valid (m x y)) → Differ 𝓐 (2 ^ n) (2 ^ n') m (noughts 𝓐) →
      (test : List ℕ → Bool) →
      ((point : List ℕ) → length point ≡ n + n' → Below size point → (extension_at 𝓐 element n m point ≡ nought → ⊥) →
      test point ≡ true) →
      (size - 1) ^ (n + n') ≤ count_points size (n + n') test
  nonzero-matrix n n' m ok differ test passes =
      rw pow-add
      (nonzero-axis n n' ((size - 1) ^ n') (λ x. m x differ.column) (λ x. ok x differ.column)
      differ.row differ.row_inside differ.unequal test
      (λ rows e b left. nonzero-table n' (row_at 𝓐 m (map element rows)) (λ y. sum-valid 𝓐 ring (2 ^ length (map element rows)) _)
      differ.column differ.column_inside left (λ columns. test (rows ++ columns))
      (λ columns e' b' left'.
      passes (rows ++ columns) (length-append rows columns ∙ ap₂ ◌+◌ e e') (below-append size rows columns b b')
      (λ z. left' (sym (at-parts rows columns e) ∙ z)))))
    where
      at-parts : (rows columns : List ℕ) → length rows ≡ n →
          extension_at 𝓐 element n m (rows ++ columns) ≡ table_at 𝓐 (row_at 𝓐 m (map element rows)) (map element columns)
      at-parts rows columns e =
          ap₂ (λ (r : List ℕ) (c : List ℕ). extension 𝓐 m (map element r) (map element c))
          (take_at rows columns n e) (drop_at rows columns n e)
          ∙ rows-fixed 𝓐 ring m (map element rows) (2 ^ length (map element columns)) (λ y. weight 𝓐 y (map element columns))
