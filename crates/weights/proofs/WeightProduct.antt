-- A weight as its factors are multiplied, over any ring: with the weight over further bits multiplied in, and with nothing left.
use Prim.Native.Nat.{ℕ, ◌+◌, ◌-◌, ◌/◌, ◌^◌, ◌≤◌}
use mathlib.Core.Path.{◌≡◌, sym, ap, ap₂, ◌∙◌}
use native.Mathlib.Omega.{arith}
use Rattle.algebra.specs.Arithmetic.{Arithmetic}
use Rattle.algebra.specs.Field.{Ring}
use Rattle.multilinear.specs.Eq.{bitwise}
use Rattle.multilinear.proofs.Bitwise.{bitwise-cut}

-- a product so far, times the weight of what is left, is the whole
pub record Weighing (𝓐 : Arithmetic) (f : ℕ → ℕ → 𝓐.Carrier) (whole : 𝓐.Carrier) (to : ℕ) (product : 𝓐.Carrier) (rest at : ℕ)
    : Type 0 where
  pub is : 𝓐.mul product (bitwise 𝓐 f (to - at) at rest) ≡ whole
  pub within : at ≤ to

module _ (𝓐 : Arithmetic) (f : ℕ → ℕ → 𝓐.Carrier) where
  open 𝓐 use {Carrier, mul}

  -- the factors of the m bits that are left, counted from 0 on
  pub weighing-left : (g : ℕ → ℕ → Carrier) (whole : Carrier) (n : ℕ) (product : Carrier) (rest K m : ℕ) → m ≡ n - K →
      bitwise 𝓐 g m 0 rest ≡ bitwise 𝓐 f m K rest → Weighing 𝓐 f whole n product rest K → Weighing 𝓐 g whole m product rest 0
  weighing-left g whole n product rest K m left same w =
      let all : m - 0 ≡ m = omega arith in
      record {
        is =
            ap (mul product)
            (ap (λ (k : ℕ). bitwise 𝓐 g k 0 rest) all ∙ same ∙ ap (λ (k : ℕ). bitwise 𝓐 f k K rest) left)
            ∙ w.is;
        within = omega arith;
      }

  -- a weight that a table holds, or 1 over no bits
  pub weight-read : (a from to k start : ℕ) (weight : Carrier) → k ≡ to - from → start ≡ from → weight ≡ bitwise 𝓐 f k start a →
      weight ≡ bitwise 𝓐 f (to - from) from a
  weight-read a from to k start weight some here e = e ∙ ap₂ (λ (n i : ℕ). bitwise 𝓐 f n i a) some here

module _ (𝓐 : Arithmetic) (𝓡 : Ring 𝓐) (f : ℕ → ℕ → 𝓐.Carrier) where
  open 𝓐 use {Carrier, mul}
  open 𝓡 use {Valid, mul_assoc, mul-unit}

  module _ (whole : Carrier) (to : ℕ) (product : Carrier) (rest at : ℕ) where
    -- the weight over the next K bits is multiplied in
    pub weighing-onward : (K : ℕ) (next part : Carrier) → at + K ≤ to → part ≡ bitwise 𝓐 f K at rest → next ≡ mul product part →
        Weighing 𝓐 f whole to product rest at → Weighing 𝓐 f whole to next (rest / 2 ^ K) (at + K)
    weighing-onward K next part l e step w =
        let left : to - at ≡ K + (to - (at + K)) = omega arith in
        let behind = bitwise 𝓐 f (to - (at + K)) (at + K) (rest / 2 ^ K) in
        record {
          is =
              ap (λ (x : Carrier). mul x behind) step
              ∙ mul_assoc product part behind
              ∙ ap (λ (x : Carrier). mul product (mul x behind)) e
              ∙ ap (mul product)
              (sym (bitwise-cut 𝓐 𝓡 f K (to - (at + K)) at rest) ∙ ap (λ (n : ℕ). bitwise 𝓐 f n at rest) (sym left))
              ∙ w.is;
          within = l;
        }

    -- nothing is left
    pub weighing-done : Valid product → to ≤ at → Weighing 𝓐 f whole to product rest at → product ≡ whole
    unfolding bitwise
    weighing-done valid l w =
        let none : to - at ≡ 0 = omega arith in
        sym (mul-unit product valid)
        ∙ ap (λ (n : ℕ). mul product (bitwise 𝓐 f n at rest)) (sym none)
        ∙ w.is

  -- the weight up to a bit, times that over the bits behind it
  pub weight-onward : (a from at to rest : ℕ) (begun whole : Carrier) → from ≤ at → at ≤ to → rest ≡ a / 2 ^ (at - from) →
      begun ≡ bitwise 𝓐 f (at - from) from a → whole ≡ mul begun (bitwise 𝓐 f (to - at) at rest) →
      whole ≡ bitwise 𝓐 f (to - from) from a
  weight-onward a from at to rest begun whole l m shifted first e =
      let all : to - from ≡ (at - from) + (to - at) = omega arith in
      let here : from + (at - from) ≡ at = omega arith in
      e
      ∙ ap₂ (λ (x : Carrier) (n : ℕ). mul x (bitwise 𝓐 f (to - at) at n)) first shifted
      ∙ ap (λ (i : ℕ). mul (bitwise 𝓐 f (at - from) from a) (bitwise 𝓐 f (to - at) i (a / 2 ^ (at - from)))) (sym here)
      ∙ sym (bitwise-cut 𝓐 𝓡 f (at - from) (to - at) from a)
      ∙ ap (λ (n : ℕ). bitwise 𝓐 f n from a) (sym all)
