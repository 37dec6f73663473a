-- Where a matrix with one value, and where a moved matrix, is zero; what a moved matrix holds elsewhere; and that a matrix which is zero
-- outside its shape is itself where it is placed at position 0.
use Prim.Native.Nat.{ℕ, ◌+◌, ◌-◌, ◌≤◌, ◌<◌}
use mathlib.Core.Bool.{Bool, true, false, cond, ◌&&◌, and-false}
use mathlib.Core.Logic.{◌⊎◌, inl, inr}
use mathlib.Core.Path.{◌≡◌, sym, ap, ap₂, ◌∙◌}
use native.Mathlib.Decide.{dec_le}
use native.Mathlib.Nat.{add-sub_cancel_left}
use native.Mathlib.Omega.{arith}
use borrow.Author.Tests.{lt-ltb, le-ltb, le-leb, lt-leb, ne_eqb}
use lib.Dec.{eqb, leb, ltb}
use Rattle.algebra.specs.Arithmetic.{Arithmetic}
use Rattle.multilinear.specs.Matrix.{Matrix, within, moved}

pub within-before : (s n x : ℕ) → x < s → within s n x ≡ false
within-before s n x l = ap (λ (b : Bool). b && ltb x (s + n)) (lt-leb s x l)

pub within-behind : (s n x : ℕ) → s + n ≤ x → within s n x ≡ false
within-behind s n x l = ap (λ (b : Bool). leb s x && b) (le-ltb x (s + n) l) ∙ and-false (leb s x)

within-inside : (s n z : ℕ) → z < n → within s n (s + z) ≡ true
within-inside s n z l = ap₂ ◌&&◌ (le-leb s (s + z) (omega arith)) (lt-ltb (s + z) (s + n) (omega arith))

module _ (𝓐 : Arithmetic) (r c : ℕ) (v : 𝓐.Carrier) where
  open 𝓐 use {nought}

  pub place-row-other : (x y : ℕ) → (r ≡ x → ⊥) → cond (eqb r x && eqb c y) v nought ≡ nought
  place-row-other x y other = ap (λ (b : Bool). cond (b && eqb c y) v nought) (ne_eqb r x other)

  pub place-column-other : (x y : ℕ) → (c ≡ y → ⊥) → cond (eqb r x && eqb c y) v nought ≡ nought
  place-column-other x y other =
      ap (λ (b : Bool). cond b v nought) (ap (λ (b : Bool). eqb r x && b) (ne_eqb c y other) ∙ and-false (eqb r x))

module _ (𝓐 : Arithmetic) (m : Matrix 𝓐) (n n' s s' : ℕ) where
  open 𝓐 use {nought}

  pub moved_inside : (z z' : ℕ) → z < n → z' < n' → moved 𝓐 m n n' s s' (s + z) (s' + z') ≡ m z z'
  unfolding moved
  moved_inside z z' l l' =
      ap₂ (λ (b : Bool) (b' : Bool). cond (b && b') (m (s + z - s) (s' + z' - s')) nought)
      (within-inside s n z l) (within-inside s' n' z' l')
      ∙ ap₂ m (add-sub_cancel_left s z) (add-sub_cancel_left s' z')

  pub moved-row-outside : (x y : ℕ) → within s n x ≡ false → moved 𝓐 m n n' s s' x y ≡ nought
  unfolding moved
  moved-row-outside x y e = ap (λ (b : Bool). cond (b && within s' n' y) (m (x - s) (y - s')) nought) e

  pub moved-column-outside : (x y : ℕ) → within s' n' y ≡ false → moved 𝓐 m n n' s s' x y ≡ nought
  unfolding moved
  moved-column-outside x y e =
      ap (λ (b : Bool). cond b (m (x - s) (y - s')) nought) (ap (λ (b : Bool). within s n x && b) e ∙ and-false (within s n x))

-- A matrix that is zero outside n rows and n' columns is filled with zeros: placed at position 0 of a larger one, it is itself.
pub filled-same : (𝓐 : Arithmetic) (m : Matrix 𝓐) (n n' : ℕ) → ((x y : ℕ) → (n ≤ x) ⊎ (n' ≤ y) → m x y ≡ 𝓐.nought) →
    (x y : ℕ) → moved 𝓐 m n n' 0 0 x y ≡ m x y
filled-same 𝓐 m n n' outside x y = go (dec_le n x) (dec_le n' y)
  where
    go : Dec (n ≤ x) → Dec (n' ≤ y) → moved 𝓐 m n n' 0 0 x y ≡ m x y
    go (yes l) _ = moved-row-outside 𝓐 m n n' 0 0 x y (within-behind 0 n x (omega arith)) ∙ sym (outside x y (inl l))
    go (no d) (yes l) = moved-column-outside 𝓐 m n n' 0 0 x y (within-behind 0 n' y (omega arith)) ∙ sym (outside x y (inr l))
    go (no d) (no d') =
        let here : 0 + x ≡ x = omega arith in
        let here' : 0 + y ≡ y = omega arith in
        sym (ap₂ (moved 𝓐 m n n' 0 0) here here') ∙ moved_inside 𝓐 m n n' 0 0 x y (omega arith) (omega arith)
