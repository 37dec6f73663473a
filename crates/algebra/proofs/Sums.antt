-- Sums over the numbers below n in a ring: of equal terms, linear, in pairs, two exchanged, and with zero outside a window.
use Prim.Native.Nat.{ℕ, zero, suc, ◌+◌, ◌-◌, ◌*◌, ◌≤◌, ◌<◌}
use mathlib.Core.Path.{◌≡◌, refl, sym, ap, ap₂, ◌∙◌}
use native.Mathlib.Nat.{add-zero, add-suc}
use native.Mathlib.Omega.{arith}
use Rattle.algebra.specs.Arithmetic.{Arithmetic, sum_below}
use Rattle.algebra.specs.Field.{Ring}
use Rattle.algebra.proofs.Rings.{nought-add, nought-mul, add-mul, add-swap}

module _ (𝓐 : Arithmetic) where
  open 𝓐 use {Carrier, add}

  pub sum_same : (n : ℕ) (f g : ℕ → Carrier) → ((x : ℕ) → x < n → f x ≡ g x) → sum_below 𝓐 n f ≡ sum_below 𝓐 n g
  unfolding sum_below
  sum_same zero f g h = refl
  sum_same (suc n) f g h = ap₂ add (sum_same n f g (λ x l. h x (omega arith))) (h n (omega arith))

module _ (𝓐 : Arithmetic) (𝓡 : Ring 𝓐) where
  open 𝓐 use {Carrier, nought, add, mul}
  open 𝓡 use {Valid, valid_nought, valid_add, add_assoc, add-nought}

  pub sum-valid : (n : ℕ) (f : ℕ → Carrier) → Valid (sum_below 𝓐 n f)
  unfolding sum_below
  sum-valid zero f = valid_nought
  sum-valid (suc n) f = valid_add (sum_below 𝓐 n f) (f n)

  pub sum-nought : (n : ℕ) (f : ℕ → Carrier) → ((x : ℕ) → x < n → f x ≡ nought) → sum_below 𝓐 n f ≡ nought
  unfolding sum_below
  sum-nought zero f h = refl
  sum-nought (suc n) f h =
      ap₂ add (sum-nought n f (λ x l. h x (omega arith))) (h n (omega arith)) ∙ add-nought nought valid_nought

  pub sum-add : (n : ℕ) (f g : ℕ → Carrier) →
      sum_below 𝓐 n (λ x. add (f x) (g x)) ≡ add (sum_below 𝓐 n f) (sum_below 𝓐 n g)
  unfolding sum_below
  sum-add zero f g = sym (add-nought nought valid_nought)
  sum-add (suc n) f g =
      ap (λ (s : Carrier). add s (add (f n) (g n))) (sum-add n f g)
      ∙ add-swap 𝓐 𝓡 (sum_below 𝓐 n f) (sum_below 𝓐 n g) (f n) (g n)

  pub sum-mul : (n : ℕ) (f : ℕ → Carrier) (c : Carrier) → sum_below 𝓐 n (λ x. mul (f x) c) ≡ mul (sum_below 𝓐 n f) c
  unfolding sum_below
  sum-mul zero f c = sym (nought-mul 𝓐 𝓡 c)
  sum-mul (suc n) f c =
      ap (λ (s : Carrier). add s (mul (f n) c)) (sum-mul n f c) ∙ sym (add-mul 𝓐 𝓡 (sum_below 𝓐 n f) (f n) c)

  pub sum-append : (a b : ℕ) (f : ℕ → Carrier) →
      sum_below 𝓐 (a + b) f ≡ add (sum_below 𝓐 a f) (sum_below 𝓐 b (λ z. f (a + z)))
  unfolding sum_below
  sum-append a zero f =
      ap (λ (n : ℕ). sum_below 𝓐 n f) (add-zero a) ∙ sym (add-nought (sum_below 𝓐 a f) (sum-valid a f))
  sum-append a (suc b) f =
      ap (λ (n : ℕ). sum_below 𝓐 n f) (add-suc a b) ∙ ap (λ (s : Carrier). add s (f (a + b))) (sum-append a b f)
      ∙ add_assoc (sum_below 𝓐 a f) (sum_below 𝓐 b (λ z. f (a + z))) (f (a + b))

  -- the sum over an even number of terms, by pairs
  pub sum-pairs : (n : ℕ) (f : ℕ → Carrier) → sum_below 𝓐 (2 * n) f ≡ sum_below 𝓐 n (λ z. add (f (2 * z)) (f (suc (2 * z))))
  unfolding sum_below
  sum-pairs zero f = refl
  sum-pairs (suc n) f =
      ap (λ (k : ℕ). sum_below 𝓐 k f) (let e : 2 * suc n ≡ suc (suc (2 * n)) = omega arith in e)
      ∙ add_assoc (sum_below 𝓐 (2 * n) f) (f (2 * n)) (f (suc (2 * n)))
      ∙ ap (λ (s : Carrier). add s (add (f (2 * n)) (f (suc (2 * n))))) (sum-pairs n f)

  -- two sums exchanged
  pub sum-swap : (n n' : ℕ) (f : ℕ → ℕ → Carrier) →
      sum_below 𝓐 n (λ x. sum_below 𝓐 n' (f x)) ≡ sum_below 𝓐 n' (λ y. sum_below 𝓐 n (λ x. f x y))
  unfolding sum_below
  sum-swap zero n' f = sym (sum-nought n' (λ y. nought) (λ y l. refl))
  sum-swap (suc n) n' f =
      ap (λ (s : Carrier). add s (sum_below 𝓐 n' (f n))) (sum-swap n n' f)
      ∙ sym (sum-add n' (λ y. sum_below 𝓐 n (λ x. f x y)) (f n))

  -- all but the n terms from s on are nought
  pub sum-window : (N s n : ℕ) (f : ℕ → Carrier) → s + n ≤ N → ((x : ℕ) → x < s → f x ≡ nought) →
      ((x : ℕ) → s + n ≤ x → x < N → f x ≡ nought) → sum_below 𝓐 N f ≡ sum_below 𝓐 n (λ z. f (s + z))
  sum-window N s n f fits before behind =
      ap (λ (m : ℕ). sum_below 𝓐 m f) split
      ∙ sum-append (s + n) rest f
      ∙ ap₂ add (sum-append s n f)
      (sum-nought rest (λ z. f (s + n + z)) (λ z l. behind (s + n + z) (omega arith) (omega arith)))
      ∙ add-nought (add (sum_below 𝓐 s f) inner) (valid_add (sum_below 𝓐 s f) inner)
      ∙ ap (λ (a : Carrier). add a inner) (sum-nought s f before)
      ∙ nought-add 𝓐 𝓡 inner (sum-valid n (λ z. f (s + z)))
    where
      rest : ℕ
      rest = N - (s + n)

      split : N ≡ s + n + rest
      split = omega arith

      inner : Carrier
      inner = sum_below 𝓐 n (λ z. f (s + z))
