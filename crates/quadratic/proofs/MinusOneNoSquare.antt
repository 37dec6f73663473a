-- Modulo p, -1 is no square, so a sum of two squares is 0 only where both are.
use Prim.Native.Nat.{ℕ, zero, suc, ◌+◌, ◌-◌, ◌*◌, ◌/◌, ◌%◌, ◌≤◌, ◌<◌}
use mathlib.Core.Path.{◌≡◌, refl, ap, ◌∙◌}
use mathlib.Core.Logic.{⊎_elim}
use native.Mathlib.Nat.{mod-lt, div-add-mod, mul-mod_left, mul-le-mul_left, mul-le-mul_right, zero-mod}
use native.Mathlib.Decide.{dec_le}
use native.Mathlib.Omega.{arith}
use Rattle.algebra.proofs.Fields.{no-zero-divisors}
use Rattle.field.specs.Fp.{p, fp}
use Rattle.field.proofs.Remainders.{same_rest, mod-mul-mod}
use Rattle.field.proofs.PIsPrime.{p-prime}
use Rattle.field.proofs.FpField.{fp-ring, fp-field}
use Rattle.field.proofs.Inverses.{inverse}

-- x may be changed to its remainder, and that to its difference from n
square-rest : (n x : ℕ) → (x % n * (x % n) + 1) % n ≡ (x * x + 1) % n
square-rest n x =
    let d : n * (x / n) + x % n ≡ x = div-add-mod x n in
    same_rest n (x % n * (x % n) + 1) (x * x + 1) (x / n * x + x / n * (x % n)) 0
    (omega (arith, ap (λ (t : ℕ). t * x) d, ap (λ (t : ℕ). t * (x % n)) d))

square-turned : (n y z : ℕ) → y + z ≡ n → (z * z + 1) % n ≡ (y * y + 1) % n
square-turned n y z e =
    same_rest n (z * z + 1) (y * y + 1) y z (omega (arith, ap (λ (s : ℕ). s * y) e, ap (λ (s : ℕ). s * z) e))

-- an even root of -1, below n
record Root (n : ℕ) : Type 0 where
  y : ℕ
  below : y < n
  even : y % 2 ≡ 0
  root : (y * y + 1) % n ≡ 0

even-root : (n x : ℕ) → n % 4 ≡ 3 → (x * x + 1) % n ≡ 0 → Root n
even-root n x three z = pick (x % n) (mod-lt x (omega arith)) (square-rest n x ∙ z)
  where
    pick : (y : ℕ) → y < n → (y * y + 1) % n ≡ 0 → Root n
    pick y lt r =
        elim (dec_le (y % 2) 0) [
          | yes h ↦ record { y = y; below = lt; even = omega arith; root = r }
          | no h ↦ record { y = n - y; below = omega arith; even = omega arith; root = square-turned n y (n - y) (omega arith) ∙ r }
        ]

-- 3 is its own inverse modulo 4
four-less-one : (m w : ℕ) → m + 1 ≡ 4 * w → m % 4 ≡ 3
four-less-one m w e = omega arith

third : (m : ℕ) → (3 * m) % 4 ≡ 1 → m % 4 ≡ 3
third m e = four-less-one m (m - 3 * m / 4) (omega arith)

-- The cofactor of n in y² + 1 is smaller than n, and 3 modulo 4 as n is.
module _ (n m y : ℕ) (whole : n * m ≡ y * y + 1) (three : n % 4 ≡ 3) (below : y < n) (even : y % 2 ≡ 0) where
  cofactor-less : m < n
  cofactor-less =
      elim (dec_le n m) [
        | yes h ↦ (let least : 3 ≤ n = omega arith in
            let under : y ≤ n = omega arith in
            absurd (omega (arith, mul-le-mul_right n below, mul-le-mul_left n h, mul-le-mul_left y under)))
        | no h ↦ omega arith
      ]

  cofactor-three : m % 4 ≡ 3
  cofactor-three =
      let half : y ≡ 2 * (y / 2) = omega arith in
      let square : y * y ≡ 4 * (y / 2 * (y / 2)) = omega (arith, ap (λ (t : ℕ). t * y) half, ap (λ (t : ℕ). y / 2 * t) half) in
      let one : (n * m) % 4 ≡ 1 = omega arith in
      let thrice : (3 * m) % 4 ≡ (n * m) % 4 = rw three at (mod-mul-mod n m 4) in
      third m (omega arith)

  cofactor-root : (y * y + 1) % m ≡ 0
  cofactor-root = rw (← whole, mul-mod_left)

-- where n is 3 modulo 4, no square is -1 modulo n: a root would give one for a smaller such n
no-root-under : (fuel n x : ℕ) → n ≤ fuel → n % 4 ≡ 3 → (x * x + 1) % n ≡ 0 → ⊥
no-root-under zero n x f three z = omega arith
no-root-under (suc k) n x f three z =
    let r : Root n = even-root n x three z in
    let m : ℕ = (r.y * r.y + 1) / n in
    let whole : n * m ≡ r.y * r.y + 1 = omega (arith, div-add-mod (r.y * r.y + 1) n, r.root) in
    let less : m < n = cofactor-less n m r.y whole three r.below r.even in
    no-root-under k m r.y (omega arith) (cofactor-three n m r.y whole three r.below r.even)
    (cofactor-root n m r.y whole three r.below r.even)

pub no-root : (n x : ℕ) → n % 4 ≡ 3 → (x * x + 1) % n ≡ 0 → ⊥
no-root n x = no-root-under n n x (omega arith)

-- a sum of two squares that is 0, divided by the second
divided : (n a b c v w : ℕ) → n * v ≡ a * a + b * b → n * w + 1 ≡ b * c → (a * c * (a * c) + 1) % n ≡ 0
divided n a b c v w ev ew =
    same_rest n (a * c * (a * c) + 1) 0 (n * w * w + 2 * w) (v * c * c)
    (omega (arith, ap (λ (t : ℕ). t * (c * c)) ev, ap (λ (t : ℕ). t * (b * c)) ew, ap (λ (t : ℕ). n * w * t) ew)) ∙ zero-mod n

-- a square is 0 modulo p only where the number is
square-nought : (a : ℕ) → a < p → (a * a) % p ≡ 0 → a ≡ 0
unfolding fp-field fp-ring
square-nought a la z = ⊎_elim (λ e. e) (λ e. e) (no-zero-divisors fp fp-field a a la la z)

-- a sum of two squares is 0 modulo p only where both numbers are
pub two-squares : (a b : ℕ) → a < p → b < p → (a * a + b * b) % p ≡ 0 → (a ≡ 0) × (b ≡ 0)
two-squares a b la lb z =
    elim (dec_le b 0) [
      | yes h ↦ (let none : b ≡ 0 = omega arith in
          let square : (a * a) % p ≡ 0 = omega (arith, ap (λ (t : ℕ). t * b) none) in
          (square-nought a la square, none))
      | no h ↦ (let (c, e) = inverse p p-prime b (omega arith) lb in
          absurd (no-root p (a * c) refl (divided p a b c ((a * a + b * b) / p) (b * c / p) (omega arith) (omega arith))))
    ]
