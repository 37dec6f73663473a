-- Sums of which all terms but one, or all outside a window, are zero.
use Prim.Native.Nat.{ℕ, ◌+◌, ◌≤◌, ◌<◌}
use mathlib.Core.Bool.{false}
use mathlib.Core.Path.{◌≡◌, ap, ◌∙◌}
use native.Mathlib.Nat.{add-zero}
use native.Mathlib.Omega.{arith}
use Rattle.algebra.specs.Arithmetic.{Arithmetic, sum_below}
use Rattle.algebra.specs.Field.{Ring}
use Rattle.algebra.proofs.Rings.{nought-add}
use Rattle.algebra.proofs.Sums.{sum_same, sum-valid, sum-nought, sum-mul, sum-window}
use Rattle.multilinear.specs.Matrix.{within}
use Rattle.multilinear.proofs.MatrixZeros.{within-before, within-behind}

module _ (𝓐 : Arithmetic) (𝓡 : Ring 𝓐) where
  open 𝓐 use {Carrier, nought, add, mul}
  open 𝓡 use {Valid}

  -- all terms but one are nought
  sum_one : (n z : ℕ) (f : ℕ → Carrier) → z < n → ((x : ℕ) → x < n → (x ≡ z → ⊥) → f x ≡ nought) → Valid (f z) →
      sum_below 𝓐 n f ≡ f z
  unfolding sum_below
  sum_one n z f l others ok =
      sum-window 𝓐 𝓡 n z 1 f (omega arith)
      (λ x before. others x (omega arith) (λ e. omega arith)) (λ x behind below. others x below (λ e. omega arith))
      ∙ ap (λ (x : ℕ). add nought (f x)) (add-zero z) ∙ nought-add 𝓐 𝓡 (f z) ok

  -- all terms but that of row r and column c are nought
  pub sums-one : (N N' r c : ℕ) (f : ℕ → ℕ → Carrier) → r < N → c < N' →
      ((x y : ℕ) → x < N → (x ≡ r → ⊥) → f x y ≡ nought) → ((y : ℕ) → y < N' → (y ≡ c → ⊥) → f r y ≡ nought) → Valid (f r c) →
      sum_below 𝓐 N (λ x. sum_below 𝓐 N' (f x)) ≡ f r c
  sums-one N N' r c f l l' rows columns ok =
      sum_one N r (λ x. sum_below 𝓐 N' (f x)) l
      (λ x below other. sum-nought 𝓐 𝓡 N' (f x) (λ y _. rows x y below other)) (sum-valid 𝓐 𝓡 N' (f r))
      ∙ sum_one N' c (f r) l' columns ok

  -- the terms from s on are those of another sum times g and g', and all others are nought
  pub sum-scaled : (N s n : ℕ) (f h : ℕ → Carrier) (g g' : Carrier) → s + n ≤ N →
      ((x : ℕ) → within s n x ≡ false → f x ≡ nought) → ((z : ℕ) → z < n → f (s + z) ≡ mul (mul (h z) g) g') →
      sum_below 𝓐 N f ≡ mul (mul (sum_below 𝓐 n h) g) g'
  sum-scaled N s n f h g g' fits outside inside =
      sum-window 𝓐 𝓡 N s n f fits
      (λ x l. outside x (within-before s n x l)) (λ x l _. outside x (within-behind s n x l))
      ∙ sum_same 𝓐 n (λ z. f (s + z)) (λ z. mul (mul (h z) g) g') inside
      ∙ sum-mul 𝓐 𝓡 n (λ z. mul (h z) g) g' ∙ ap (λ (x : Carrier). mul x g') (sum-mul 𝓐 𝓡 n h g)
