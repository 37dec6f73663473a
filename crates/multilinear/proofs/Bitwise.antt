-- Weights by a factor for each bit: cut in two, of the low bits alone, with zeros on top, and where the factors are those of coordinates.
use Prim.Native.Nat.{ℕ, zero, suc, ◌+◌, ◌*◌, ◌/◌, ◌%◌, ◌^◌, ◌≤◌, ◌<◌}
use mathlib.Core.Bool.{cond}
use mathlib.Core.List.{List, [], ◌∷◌}
use mathlib.Core.Path.{◌≡◌, refl, sym, ap, ap₂, ◌∙◌}
use native.Mathlib.Nat.{pow-suc, div-div-eq-div-mul, div-eq_of_lt}
use native.Mathlib.Omega.{arith}
use lib.Dec.{eqb}
use lib.ListN.{length, get_or, take}
use Rattle.algebra.specs.Arithmetic.{Arithmetic}
use Rattle.algebra.specs.Field.{Ring}
use Rattle.algebra.proofs.Rings.{unit-mul}
use Rattle.multilinear.specs.Eq.{bitwise}
use Rattle.multilinear.specs.Weight.{weight}

module _ (𝓐 : Arithmetic) where
  open 𝓐 use {Carrier, unit, sub, mul}

  -- factors that agree on the bits in use, each from a bit of its own on
  pub bitwise-same : (f g : ℕ → ℕ → Carrier) (k from start a : ℕ) →
      ((i bit : ℕ) → i < k → bit < 2 → f (from + i) bit ≡ g (start + i) bit) → bitwise 𝓐 f k from a ≡ bitwise 𝓐 g k start a
  unfolding bitwise
  bitwise-same f g zero from start a same = refl
  bitwise-same f g (suc k) from start a same =
      let here : from + 0 ≡ from = omega arith in
      let there : start + 0 ≡ start = omega arith in
      ap₂ mul
      (ap (λ (i : ℕ). f i (a % 2)) (sym here) ∙ same 0 (a % 2) (omega arith) (omega arith) ∙ ap (λ (i : ℕ). g i (a % 2)) there)
      (bitwise-same f g k (suc from) (suc start) (a / 2) (λ i bit m b.
      let next : suc from + i ≡ from + suc i = omega arith in
      let then : start + suc i ≡ suc start + i = omega arith in
      ap (λ (j : ℕ). f j bit) next ∙ same (suc i) bit (omega arith) b ∙ ap (λ (j : ℕ). g j bit) then))

  -- the factors of coordinates
  pub bitwise-weight : (f : ℕ → ℕ → Carrier) (d : Carrier) (k from a : ℕ) (r : List Carrier) → k ≤ length r →
      ((i bit : ℕ) → i < k → bit < 2 → f (from + i) bit ≡ cond (eqb bit 1) (get_or r i d) (sub unit (get_or r i d))) →
      bitwise 𝓐 f k from a ≡ weight 𝓐 a (take k r)
  unfolding bitwise weight
  bitwise-weight f d zero from a r l same = refl
  bitwise-weight f d (suc k) from a [] l same = absurd (omega arith)
  bitwise-weight f d (suc k) from a (r ∷ rs) l same =
      let here : from + 0 ≡ from = omega arith in
      ap₂ mul (ap (λ (i : ℕ). f i (a % 2)) (sym here) ∙ same 0 (a % 2) (omega arith) (omega arith))
      (bitwise-weight f d k (suc from) (a / 2) rs (omega arith) (λ i bit m b.
      let next : suc from + i ≡ from + suc i = omega arith in
      ap (λ (j : ℕ). f j bit) next ∙ same (suc i) bit (omega arith) b))

module _ (𝓐 : Arithmetic) (𝓡 : Ring 𝓐) (f : ℕ → ℕ → 𝓐.Carrier) where
  open 𝓐 use {Carrier, unit, mul}
  open 𝓡 use {Valid, valid_unit, valid_mul, mul_assoc, mul-unit}

  pub bitwise-valid : (k from a : ℕ) → Valid (bitwise 𝓐 f k from a)
  unfolding bitwise
  bitwise-valid zero from a = valid_unit
  bitwise-valid (suc k) from a = valid_mul (f from (a % 2)) (bitwise 𝓐 f k (suc from) (a / 2))

  -- the low bits take the first K factors, the others those behind them
  pub bitwise-cut : (K m from a : ℕ) →
      bitwise 𝓐 f (K + m) from a ≡ mul (bitwise 𝓐 f K from a) (bitwise 𝓐 f m (from + K) (a / 2 ^ K))
  unfolding bitwise
  bitwise-cut zero m from a =
      let here : from ≡ from + 0 = omega arith in
      let all : a ≡ a / 2 ^ 0 = omega arith in
      let none : 0 + m ≡ m = omega arith in
      ap (λ (k : ℕ). bitwise 𝓐 f k from a) none
      ∙ ap₂ (λ (i b : ℕ). bitwise 𝓐 f m i b) here all
      ∙ sym (unit-mul 𝓐 𝓡 (bitwise 𝓐 f m (from + 0) (a / 2 ^ 0)) (bitwise-valid m (from + 0) (a / 2 ^ 0)))
  bitwise-cut (suc K) m from a =
      let more : suc K + m ≡ suc (K + m) = omega arith in
      let at : suc from + K ≡ from + suc K = omega arith in
      let halved : a / 2 / 2 ^ K ≡ a / 2 ^ suc K = div-div-eq-div-mul a 2 (2 ^ K) ∙ ap (λ (n : ℕ). a / n) (two K) in
      ap (λ (k : ℕ). bitwise 𝓐 f k from a) more
      ∙ ap (mul (f from (a % 2))) (bitwise-cut K m (suc from) (a / 2))
      ∙ sym (mul_assoc (f from (a % 2)) (bitwise 𝓐 f K (suc from) (a / 2)) (bitwise 𝓐 f m (suc from + K) (a / 2 / 2 ^ K)))
      ∙ ap₂ (λ (i b : ℕ). mul (bitwise 𝓐 f (suc K) from a) (bitwise 𝓐 f m i b)) at halved
    where
      two : (K : ℕ) → 2 * 2 ^ K ≡ 2 ^ suc K
      two K = omega (arith, pow-suc 2 K)

  -- further bits on top change nothing for the lowest K
  pub bitwise-low : (K from a z : ℕ) → bitwise 𝓐 f K from (a * 2 ^ K + z) ≡ bitwise 𝓐 f K from z
  unfolding bitwise
  bitwise-low zero from a z = refl
  bitwise-low (suc K) from a z =
      ap₂ (λ (bit n : ℕ). mul (f from bit) (bitwise 𝓐 f K (suc from) n)) low high
      ∙ ap (mul (f from (z % 2))) (bitwise-low K (suc from) a (z / 2))
    where
      low : (a * 2 ^ suc K + z) % 2 ≡ z % 2
      low = rw pow-suc (omega arith)

      high : (a * 2 ^ suc K + z) / 2 ≡ a * 2 ^ K + z / 2
      high = rw pow-suc (omega arith)

  -- bits that are 0 weigh 1 where the factor of each for 0 is 1
  zeros : (m at : ℕ) → ((i : ℕ) → at ≤ i → i < at + m → f i 0 ≡ unit) → bitwise 𝓐 f m at 0 ≡ unit
  unfolding bitwise
  zeros zero at ones = refl
  zeros (suc m) at ones =
      ap₂ mul (ones at (omega arith) (omega arith)) (zeros m (suc at) (λ i l u. ones i (omega arith) (omega arith)))
      ∙ mul-unit unit valid_unit

  -- so such bits on top change nothing for a number of k bits
  pub bitwise-beyond : (k m from a : ℕ) → a < 2 ^ k → ((i : ℕ) → from + k ≤ i → i < from + k + m → f i 0 ≡ unit) →
      bitwise 𝓐 f (k + m) from a ≡ bitwise 𝓐 f k from a
  bitwise-beyond k m from a l ones =
      bitwise-cut k m from a
      ∙ ap (λ (b : ℕ). mul (bitwise 𝓐 f k from a) (bitwise 𝓐 f m (from + k) b)) (div-eq_of_lt l)
      ∙ ap (mul (bitwise 𝓐 f k from a)) (zeros m (from + k) ones)
      ∙ mul-unit (bitwise 𝓐 f k from a) (bitwise-valid k from a)
