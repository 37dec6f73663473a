-- Sums of whole numbers: compared with each term, compared, added and multiplied term by term, and sums of which all terms but one are known.
use Prim.Native.Nat.{ℕ, zero, suc, ◌+◌, ◌-◌, ◌*◌, ◌≤◌, ◌<◌, zero-le}
use mathlib.Core.Path.{◌≡◌, refl, sym, ap, ◌∙◌}
use native.Mathlib.Decide.{ℕ_discrete}
use native.Mathlib.Nat.{le_refl, add-mul, mul_comm, mul-sub, mul-zero, zero-mul}
use native.Mathlib.Omega.{arith}
use Rattle.algebra.specs.Arithmetic.{sum_below, whole}
use Rattle.algebra.proofs.Sums.{sum_same}

-- a term is at most the sum
pub total-term : (n : ℕ) (f : ℕ → ℕ) (x : ℕ) → x < n → f x ≤ sum_below whole n f
unfolding sum_below
total-term zero f x l = absurd (omega (arith, l))
total-term (suc n) f x l =
    elim (ℕ_discrete n x) [
      | yes last ↦ omega (arith, ap f last)
      | no before ↦ omega (arith, total-term n f x (omega (arith, l, before)))
    ]

pub total-le : (n : ℕ) (f g : ℕ → ℕ) → ((x : ℕ) → x < n → f x ≤ g x) → sum_below whole n f ≤ sum_below whole n g
unfolding sum_below
total-le zero f g h = zero-le
total-le (suc n) f g h = omega (arith, total-le n f g (λ x l. h x (omega arith)), h n (le_refl (suc n)))

pub total-add : (n : ℕ) (f g : ℕ → ℕ) → sum_below whole n (λ x. f x + g x) ≡ sum_below whole n f + sum_below whole n g
unfolding sum_below
total-add zero f g = refl
total-add (suc n) f g = omega (arith, total-add n f g)

pub total-const : (n c : ℕ) → sum_below whole n (λ x. c) ≡ n * c
unfolding sum_below
total-const zero c = omega arith
total-const (suc n) c = omega (arith, total-const n c)

pub total-mul : (n c : ℕ) (f : ℕ → ℕ) → sum_below whole n (λ x. f x * c) ≡ sum_below whole n f * c
unfolding sum_below
total-mul zero c f = sym (zero-mul c)
total-mul (suc n) c f = ap (λ (s : ℕ). s + f n * c) (total-mul n c f) ∙ sym (add-mul (sum_below whole n f) (f n) c)

pub total-none : (n : ℕ) (f : ℕ → ℕ) → ((x : ℕ) → x < n → f x ≡ 0) → sum_below whole n f ≡ 0
total-none n f none = sum_same whole n f (λ x. 0) none ∙ total-const n 0 ∙ mul-zero n

-- one term is all there is
pub total-one : (n z c : ℕ) (f : ℕ → ℕ) → z < n → f z ≡ c → ((x : ℕ) → x < n → (x ≡ z → ⊥) → f x ≡ 0) →
    sum_below whole n f ≡ c
unfolding sum_below
total-one zero z c f l e h = absurd (omega arith)
total-one (suc n) z c f l e h = go (ℕ_discrete n z) (λ k. total-one n z c f k e (λ x j. h x (omega arith)))
  where
    none : n ≡ z → sum_below whole n f ≡ 0
    none s = total-none n f (λ x j. h x (omega arith) (λ t. omega arith))

    go : Dec (n ≡ z) → (z < n → sum_below whole n f ≡ c) → sum_below whole n f + f n ≡ c
    go (yes s) ih = omega (arith, none s, ap f s ∙ e)
    go (no d) ih = omega (arith, ih (omega arith), h n (omega arith) d)

module _ (c : ℕ) (f : ℕ → ℕ) (P : ℕ → Type 0) where
  but-one : (n : ℕ) → ((x : ℕ) → x < n → Dec (P x)) → ((x y : ℕ) → x < n → y < n → P x → P y → x ≡ y) →
      ((x : ℕ) → x < n → (P x → ⊥) → c ≤ f x) → n * c ≤ sum_below whole n f + c
  unfolding sum_below
  but-one zero decided once others = omega arith
  but-one (suc n) decided once others =
      go (decided n (le_refl (suc n)))
      (but-one n (λ x l. decided x (omega arith)) (λ x y l k. once x y (omega arith) (omega arith)) (λ x l. others x (omega arith)))
    where
      earlier : P n → (x : ℕ) → x < n → P x → ⊥
      earlier p x l p' = let e : x ≡ n = once x n (omega arith) (le_refl (suc n)) p' p in omega arith

      go : Dec (P n) → n * c ≤ sum_below whole n f + c → suc n * c ≤ sum_below whole n f + f n + c
      go (yes p) ih =
          omega (arith, total-const n c, total-le n (λ x. c) f (λ x l. others x (omega arith) (earlier p x l)))
      go (no d) ih = omega (arith, ih, others n (le_refl (suc n)) d)

  -- P holds of one number at most, and where it does not hold the term is c or more
  pub total-but-one : (n : ℕ) → ((x : ℕ) → x < n → Dec (P x)) → ((x y : ℕ) → x < n → y < n → P x → P y → x ≡ y) →
      ((x : ℕ) → x < n → (P x → ⊥) → c ≤ f x) → (n - 1) * c ≤ sum_below whole n f
  total-but-one n decided once others =
      rw (mul_comm (n - 1) c, mul-sub) (omega (arith, but-one n decided once others))
