-- The digits of a number: the fewest that hold it, and at most 20.
use Prim.Native.Nat.{ℕ, zero, suc, ◌+◌, ◌-◌, ◌/◌, ◌%◌, ◌^◌, ◌≤◌, ◌<◌}
use mathlib.Core.Bool.{Bool, true, false, cond}
use mathlib.Core.List.{List, [], ◌∷◌}
use mathlib.Core.Path.{◌≡◌, refl, ap, ◌∙◌}
use native.Mathlib.Decide.{dec_lt}
use native.Mathlib.Nat.{pow-suc, pow-le-pow_right}
use native.Mathlib.Omega.{arith}
use borrow.Author.Tests.{ltb-true, ltb-false}
use lib.Dec.{ltb}
use lib.ListN.{length, length-append}
use Rattle.report.specs.Text.{places_within, places, decimal, labelled}
use Rattle.io.specs.Digits.{hex_digit_ascii, last_digits, IsDigitCount}

-- a number of ten or more with one digit more than its tens have is no less than the power of ten that this reaches
reached : (n k : ℕ) → 10 ≤ n → IsDigitCount 10 1 (n / 10) k → 10 ^ k ≤ n
reached n zero l tens = absurd (omega (arith, tens.0))
reached n (suc zero) l tens = l
reached n (suc (suc k)) l tens =
    let less : suc (suc k) - 1 ≡ suc k = omega arith in
    omega (arith, tens.2 (omega arith), ap (λ (e : ℕ). 10 ^ e) less, pow-suc 10 (suc k))

-- as many digits as a number has hold it, and no fewer do
fewest-within : (more n : ℕ) → n < 10 ^ suc more → IsDigitCount 10 1 n (places_within more n)
unfolding places_within
fewest-within zero n l = (omega arith, l, λ few. absurd (omega arith))
fewest-within (suc more) n l =
    go (ltb n 10) refl (fewest-within more (n / 10) (omega (arith, rw (pow-suc 10 (suc more)) at l)))
  where
    go : (b : Bool) → ltb n 10 ≡ b → IsDigitCount 10 1 (n / 10) (places_within more (n / 10)) →
        IsDigitCount 10 1 n (cond b 1 (suc (places_within more (n / 10))))
    go true e tens = (omega arith, ltb-true n 10 e, λ few. absurd (omega arith))
    go false e tens = (
      omega arith,
      omega (arith, tens.1, pow-suc 10 (places_within more (n / 10))),
      λ few.
          omega (
            arith,
            reached n (places_within more (n / 10)) (ltb-false n 10 e) tens,
            ap (λ (e : ℕ). 10 ^ e)
                (let less : suc (places_within more (n / 10)) - 1 ≡ places_within more (n / 10) = omega arith in less),
          ),
    )

-- and only they
fewest-only : (n j k : ℕ) → IsDigitCount 10 1 n j → IsDigitCount 10 1 n k → j ≤ k
fewest-only n j k f g = go (dec_lt k j)
  where
    go : Dec (k < j) → j ≤ k
    go (yes l) =
        let held = f.2 (omega (arith, g.0)) in
        let power = pow-le-pow_right {n = 10} (omega arith) {i = k} {j = j - 1} (omega arith) in
        absurd (omega (arith, held, power, g.1))
    go (no l) = omega arith

places-most : (more n : ℕ) → places_within more n ≤ suc more
unfolding places_within
places-most zero n = omega arith
places-most (suc more) n = go (ltb n 10) (places-most more (n / 10))
  where
    go : (b : Bool) → places_within more (n / 10) ≤ suc more → cond b 1 (suc (places_within more (n / 10))) ≤ suc (suc more)
    go true l = omega arith
    go false l = omega arith

digits-length : (k n : ℕ) → length (last_digits 10 k n) ≡ k
digits-length zero n = refl
digits-length (suc k) n =
    length-append (last_digits 10 k (n / 10)) (hex_digit_ascii (n % 10) ∷ []) ∙ omega (arith, digits-length k (n / 10))

-- digits of which there are the fewest are a number's, and at most 20
module _ (n k : ℕ) (l : n < 18446744073709551616) (f : IsDigitCount 10 1 n k) where
  held : IsDigitCount 10 1 n (places n)
  held = fewest-within 19 n (omega arith)

  count-is : k ≡ places n
  count-is = omega (arith, fewest-only n k (places n) f held, fewest-only n (places n) k held f)

  pub decimal-is : last_digits 10 k n ≡ decimal n
  decimal-is = ap (λ (j : ℕ). last_digits 10 j n) count-is

  pub digits-most : k ≤ 20
  digits-most = omega (arith, count-is, places-most 19 n)

-- the text of a label and a number
pub labelled-most : (label : List ℕ) (n : ℕ) → length (labelled label n) ≤ length label + 20
labelled-most label n =
    omega (arith, length-append label (decimal n), digits-length (places n) n, places-most 19 n)
