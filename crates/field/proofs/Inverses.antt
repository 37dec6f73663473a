-- Modulo a prime every number but 0 has an inverse.
-- The remainder of n by a is smaller than a, and an inverse of it gives one of a.
use Prim.Native.Nat.{ℕ, zero, suc, ◌+◌, ◌-◌, ◌*◌, ◌/◌, ◌%◌, ◌≤◌, ◌<◌}
use mathlib.Core.Logic.{⊎_elim}
use mathlib.Core.Path.{◌≡◌, ap, ◌∙◌}
use native.Mathlib.Decide.{dec_le}
use native.Mathlib.Nat.{mod-lt, mod-eq_of_lt, div-add-mod, div-le_self, dvd_of_mod-eq-zero}
use native.Mathlib.Omega.{arith}
use Rattle.field.specs.Prime.{Prime}
use Rattle.field.proofs.Remainders.{same_rest}

-- with n = a·q + r and t = n - q, a·t is r modulo n
complement : (n a q r t c : ℕ) → a * q + r ≡ n → t + q ≡ n → a * (t * c) + n * c ≡ r * c + n * (a * c)
complement n a q r t c d s = omega (arith, ap (λ (x : ℕ). x * c) d, ap (λ (x : ℕ). a * x * c) s)

module _ (n : ℕ) (prime : Prime n) where
  not-divided : (a : ℕ) → 1 < a → a < n → n % a ≡ 0 → ⊥
  not-divided a more lt z =
      ⊎_elim (λ e. omega arith) (λ e. omega arith) (prime.divisors a (dvd_of_mod-eq-zero a z))

  inverse-under : (fuel a : ℕ) → a ≤ fuel → 0 < a → a < n → (c : ℕ) × ((a * c) % n ≡ 1)
  inverse-under zero a f pos lt = absurd (omega arith)
  inverse-under (suc k) a f pos lt =
      elim (dec_le a 1) [
        | yes h ↦ (1, (let one : a ≡ 1 = omega arith in rw one (mod-eq_of_lt prime.more_than_one)))
        | no h ↦ (let small : n % a < a = mod-lt n pos in
            let more : n % a ≡ 0 → ⊥ = not-divided a (omega arith) lt in
            let (c, e) = inverse-under k (n % a) (omega arith) (omega arith) (omega arith) in (
              (n - n / a) * c,
              same_rest n (a * ((n - n / a) * c)) (n % a * c) c (a * c)
                  (complement n a (n / a) (n % a) (n - n / a) c (div-add-mod n a) (omega (arith, div-le_self n a))) ∙ e,
            ))
      ]

  pub inverse : (a : ℕ) → 0 < a → a < n → (c : ℕ) × ((a * c) % n ≡ 1)
  inverse a pos lt = inverse-under a a (omega arith) pos lt
