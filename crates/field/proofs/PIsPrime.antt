-- The divisors of p are 1 and p: trial division up to 49,153, which antt computes.
use Prim.Native.Nat.{ℕ, zero, suc, ◌+◌, ◌*◌, ◌/◌, ◌%◌, ◌^◌, ◌≤◌, ◌<◌}
use mathlib.Core.Bool.{Bool, true, false, ◌&&◌}
use mathlib.Core.Logic.{◌⊎◌, inl, inr}
use mathlib.Core.Path.{◌≡◌, subst}
use native.Mathlib.Decide.{dec_le, dec_lt, ℕ_discrete}
use native.Mathlib.Nat.{div-add-mod, mul-mod_left, mul-le-mul, mul-le-mul_left, mod-eq_of_lt, mod-zero, mod-eq-zero_of_dvd}
use native.Mathlib.Omega.{arith}
use lib.Dec.{T}
use lib.Ieee.Fits.{and_l, and_r}
use Rattle.field.specs.Fp.{p}
use Rattle.field.specs.Prime.{Prime}

positive : ℕ → Bool
positive zero = false
positive (suc n) = true

-- none of the 2^k numbers from d on divides n
sieve : ℕ → ℕ → ℕ → Bool
sieve n zero d = positive (n % d)
sieve n (suc k) d = sieve n k d && sieve n k (d + 2 ^ k)

sieve-sound : (n k d e : ℕ) → T (sieve n k d) → d ≤ e → e < d + 2 ^ k → n % e ≡ 0 → ⊥
unfolding sieve positive
sieve-sound n zero d e s lo hi z =
    let same : e ≡ d = omega arith in
    let z' : n % d ≡ 0 = rw same at z in
    subst (λ (m : ℕ). T (positive m)) z' s
sieve-sound n (suc k) d e s lo hi z =
    elim (dec_lt e (d + 2 ^ k)) [
      | yes h ↦ sieve-sound n k d e (and_l (sieve n k d) (sieve n k (d + 2 ^ k)) s) lo h z
      | no h ↦ sieve-sound n k (d + 2 ^ k) e (and_r (sieve n k d) (sieve n k (d + 2 ^ k)) s) (omega arith) (omega arith) z
    ]

-- the numbers 2 to 32,769 and from there to 49,153, whose square is over p
sieved : T (sieve p 15 2 && sieve p 14 32770)
unfolding sieve positive
sieved = tt

sieved-sound : (e : ℕ) → 1 < e → e < 49154 → p % e ≡ 0 → ⊥
sieved-sound e lo hi z =
    elim (dec_lt e 32770) [
      | yes h ↦ sieve-sound p 15 2 e (and_l (sieve p 15 2) (sieve p 14 32770) sieved) lo h z
      | no h ↦ sieve-sound p 14 32770 e (and_r (sieve p 15 2) (sieve p 14 32770) sieved) (omega arith) hi z
    ]

-- the cofactor of a divisor other than 1 and n is one too, and it is below c if the divisor is not and c² is over n
module _ (n e q : ℕ) (product : e * q ≡ n) (lt : e < n) where
  cofactor-more : 1 < q
  cofactor-more = elim (dec_le q 1) [ yes h ↦ absurd (omega (arith, mul-le-mul_left e h)) | no h ↦ omega arith ]

  cofactor-small : (c : ℕ) → c ≤ e → n < c * c → q < c
  cofactor-small c big over =
      elim (dec_le c q) [ yes h ↦ absurd (omega (arith, mul-le-mul big h)) | no h ↦ omega arith ]

  cofactor-divides : n % q ≡ 0
  cofactor-divides = rw (← product, mul-mod_left)

undivided : (e : ℕ) → 1 < e → e < p → p % e ≡ 0 → ⊥
undivided e more lt z =
    elim (dec_lt e 49154) [
      | yes h ↦ sieved-sound e more h z
      | no h ↦ (let q : ℕ = p / e in
          let product : e * q ≡ p = omega (arith, div-add-mod p e) in
          sieved-sound q (cofactor-more p e q product lt)
          (cofactor-small p e q product lt 49154 (omega arith) (omega arith)) (cofactor-divides p e q product lt))
    ]

pub p-prime : Prime p
p-prime = record { more_than_one = omega arith; divisors = λ d h. only d (mod-eq-zero_of_dvd d h) }
  where
    between : (d : ℕ) → p % d ≡ 0 → (d ≡ 1 → ⊥) → (d ≡ p → ⊥) → ⊥
    between d z one all =
        elim (dec_lt d p) [
          | yes h ↦ (elim (dec_le d 0) [
            | yes none ↦ (let d0 : d ≡ 0 = omega arith in
                let z0 : p % 0 ≡ 0 = rw d0 at z in
                omega (arith, mod-zero p))
            | no some ↦ undivided d (omega arith) h z
          ])
          | no h ↦ (let more : p < d = omega arith in omega (arith, mod-eq_of_lt more))
        ]

    only : (d : ℕ) → p % d ≡ 0 → (d ≡ 1) ⊎ (d ≡ p)
    only d z =
        elim (ℕ_discrete d 1) [
          | yes e ↦ inl e
          | no one ↦ (elim (ℕ_discrete d p) [ yes e ↦ inr e | no all ↦ absurd (between d z one all) ])
        ]
