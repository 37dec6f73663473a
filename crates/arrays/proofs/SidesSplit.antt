-- Sides whose weights split where calls are placed, by blocks: coordinates, and factors for each bit (004, Lemma 1).
use Prim.Native.Nat.{ℕ, ◌+◌, ◌-◌, ◌*◌, ◌/◌, ◌^◌, ◌≤◌, ◌<◌}
use mathlib.Core.List.{List}
use mathlib.Core.Path.{◌≡◌, ap, ap₂, ◌∙◌}
use native.Mathlib.Nat.{div-eq_of_lt, mul-add-div_right}
use native.Mathlib.Omega.{arith}
use lib.ListN.{take}
use lib.Seq.{slice, take-take}
use Rattle.algebra.specs.Arithmetic.{Arithmetic}
use Rattle.algebra.specs.Field.{Ring}
use Rattle.multilinear.specs.Eq.{bitwise}
use Rattle.multilinear.specs.Weight.{weight}
use Rattle.multilinear.proofs.Bitwise.{bitwise-cut, bitwise-low}
use Rattle.multilinear.proofs.Blocks.{block-fits}
use Rattle.multilinear.proofs.Weights.{weight-split}
use Rattle.arrays.specs.Placing.{blocks, Within}
use Rattle.arrays.specs.Side.{coordinates, factors, Splits}

high_part : (a z m : ℕ) → z < m → (a * m + z) / m ≡ a
high_part a z m l =
    let high = mul-add-div_right {m = m} (omega arith) a z in
    let low : z / m ≡ 0 = div-eq_of_lt l in
    omega (arith, high, low)

pub block_within : Within blocks
block_within = block-fits

module _ (𝓐 : Arithmetic) (𝓡 : Ring 𝓐) where
  open 𝓐 use {Carrier, mul}

  pub coordinates-split : (r : List Carrier) → Splits 𝓐 blocks (coordinates 𝓐 r)
  coordinates-split r =
      record {
        within = block_within;
        splits = λ k K a z fits l.
            weight-split 𝓐 𝓡 K a z (take k r) l
            ∙ ap (λ (list : List Carrier). mul (weight 𝓐 z list) (weight 𝓐 a (slice K k r))) (take-take K k r fits);
      }

  pub factors-split : (f : ℕ → ℕ → Carrier) → Splits 𝓐 blocks (factors 𝓐 f)
  factors-split f = record { within = block_within; splits = split }
    where
      split : (k K a z : ℕ) → K ≤ k → z < 2 ^ K →
          bitwise 𝓐 f k 0 (a * 2 ^ K + z) ≡ mul (bitwise 𝓐 f K 0 z) (bitwise 𝓐 f (k - K) K a)
      split k K a z fits l =
          let all : k ≡ K + (k - K) = omega arith in
          let here : 0 + K ≡ K = omega arith in
          ap (λ (n : ℕ). bitwise 𝓐 f n 0 (a * 2 ^ K + z)) all
          ∙ bitwise-cut 𝓐 𝓡 f K (k - K) 0 (a * 2 ^ K + z)
          ∙ ap₂ mul (bitwise-low 𝓐 𝓡 f K 0 a z) (ap₂ (λ (i n : ℕ). bitwise 𝓐 f (k - K) i n) here (high_part a z (2 ^ K) l))
