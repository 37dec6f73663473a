-- One block of limb weights as it is made: the weight over no bits, then those over one bit more and one bit more.
use Prim.Native.Nat.{ℕ, zero, suc, ◌+◌, ◌-◌, ◌*◌, ◌/◌, ◌%◌, ◌^◌, ◌≤◌, ◌<◌}
use mathlib.Core.List.{List}
use mathlib.Core.Path.{◌≡◌, refl, sym, ap, ap₂, ◌∙◌}
use native.Mathlib.Decide.{ℕ_discrete}
use native.Mathlib.Nat.{pow-suc}
use native.Mathlib.Omega.{arith}
use lib.ListN.{length, get_or, set, length-set}
use lib.Pow.{pow_mono}
use lib.Seq.{get_or-set_other}
use Rattle.multilinear.specs.Eq.{bitwise}
use Rattle.scalar.specs.Elements.{Elements}
use Rattle.weights.specs.Side.{element_in, limb_place, pairs, Complements, BlockGrown, Widened}
use Rattle.weights.proofs.FactorsWritten.{bitwise-alike}

-- one bit more a turn
module _ {E : Type 0} (𝓔 : Elements E) (before : List E) (q : ℕ) where
  open 𝓔.scalars.arithmetic use {Carrier, unit, sub, mul}

  -- the weight of b, a number of r bits, over the last r bits of the limb
  abbrev weight_over : ℕ → ℕ → Carrier
  weight_over r b = bitwise 𝓔.scalars.arithmetic (pairs 𝓔 before) r (5 * q + (5 - r)) b

  pub growing-begun : element_in 𝓔 before (64 * q + 64 + 1) ≡ unit → BlockGrown 𝓔 before q 0 before
  unfolding bitwise
  growing-begun one = record {
    same_length = refl;
    holds = λ r b l m. hold r b l m;
    first = λ k l. refl;
  }
    where
      hold : (r b : ℕ) → r ≤ 0 → b < 2 ^ r → element_in 𝓔 before (limb_place q r b) ≡ weight_over r b
      hold zero b l m =
          let place : 64 * q + 64 + (2 ^ 0 + b) ≡ 64 * q + 64 + 1 = omega arith in
          ap (element_in 𝓔 before) place ∙ one
      hold (suc r) b l m = absurd (omega arith)

  pub growing-turn : (table after : List E) (level bit half : ℕ) (odd : Carrier) → level < 5 → bit ≡ 5 * q + 4 - level →
      half ≡ 2 ^ level → Complements 𝓔 (5 * q + 5) before → BlockGrown 𝓔 before q level table → odd ≡ element_in 𝓔 table (2 * bit + 1) →
      Widened 𝓔 table (64 * q + 64) half odd (2 * half) after → BlockGrown 𝓔 before q (level + 1) after
  unfolding bitwise
  growing-turn table after level bit half odd l bit_is half_is complements so_far read made = record {
    same_length = made.same_length ∙ so_far.same_length;
    holds = λ r b m n. hold r b (ℕ_discrete r (level + 1)) m n;
    first = λ k m. made.first k (omega arith) ∙ so_far.first k m;
  }
    where
      -- the odd factor stands before the blocks
      odd_is : odd ≡ pairs 𝓔 before bit 1
      odd_is = read ∙ ap 𝓔.element (so_far.first (2 * bit + 1) (omega arith))

      even_is : sub unit odd ≡ pairs 𝓔 before bit 0
      even_is = ap (sub unit) odd_is ∙ sym (complements bit (omega arith))

      -- the weights over one bit more
      part : (b j c : ℕ) → b % 2 ≡ c → j ≡ half + b / 2 → b / 2 < half →
          element_in 𝓔 after (64 * q + 64 + (2 * half + b)) ≡ mul (pairs 𝓔 before bit c) (element_in 𝓔 table (64 * q + 64 + j))
      part b j zero e j-is m =
          let place : 64 * q + 64 + (2 * half + b) ≡ 64 * q + 64 + 2 * j = omega arith in
          ap (element_in 𝓔 after) place
          ∙ made.evens j (omega arith) (omega arith)
          ∙ ap (λ (x : Carrier). mul x (element_in 𝓔 table (64 * q + 64 + j))) even_is
      part b j (suc zero) e j-is m =
          let place : 64 * q + 64 + (2 * half + b) ≡ 64 * q + 64 + 2 * j + 1 = omega arith in
          ap (element_in 𝓔 after) place
          ∙ made.odds j (omega arith) (omega arith)
          ∙ ap (λ (x : Carrier). mul x (element_in 𝓔 table (64 * q + 64 + j))) odd_is
      part b j (suc (suc c)) e j-is m = absurd (omega arith)

      wider : (b : ℕ) → b < 2 ^ suc level → element_in 𝓔 after (64 * q + 64 + (2 ^ suc level + b)) ≡ weight_over (suc level) b
      wider b m =
          let double : 2 ^ suc level ≡ 2 * half = omega (arith, pow-suc 2 level) in
          let low : b / 2 < 2 ^ level = omega (arith, pow-suc 2 level) in
          let here : bit ≡ 5 * q + (5 - suc level) = omega arith in
          let next : 5 * q + (5 - level) ≡ suc (5 * q + (5 - suc level)) = omega arith in
          ap (λ (n : ℕ). element_in 𝓔 after (64 * q + 64 + (n + b))) double
          ∙ part b (half + b / 2) (b % 2) refl refl (omega arith)
          ∙ ap₂ (λ (i h : ℕ). mul (pairs 𝓔 before i (b % 2)) (element_in 𝓔 table (64 * q + 64 + (h + b / 2)))) here half_is
          ∙ ap (mul (pairs 𝓔 before (5 * q + (5 - suc level)) (b % 2)))
          (so_far.holds level (b / 2) (omega arith) low
          ∙ ap (λ (n : ℕ). bitwise 𝓔.scalars.arithmetic (pairs 𝓔 before) level n (b / 2)) next)

      hold : (r b : ℕ) → Dec (r ≡ level + 1) → r ≤ level + 1 → b < 2 ^ r → element_in 𝓔 after (limb_place q r b) ≡ weight_over r b
      hold r b (yes e) m n =
          let more : r ≡ suc level = omega arith in
          rw more (wider b (rw more at n))
      hold r b (no differ) m n =
          let fewer : r ≤ level = omega (arith, differ) in
          ap 𝓔.element (made.first (limb_place q r b) (omega (arith, pow_mono {i = r} {j = level} fewer))) ∙ so_far.holds r b fewer n

-- a block with the weight over no bits, and the block that is made then
module _ {E : Type 0} (𝓔 : Elements E) (before begun : List E) (q : ℕ) (one : E) (few : q < 6) (room : 448 ≤ length before)
    (stored : begun ≡ set before (64 * q + 64 + 1) one) where
  open 𝓔.scalars.arithmetic use {unit}

  inside : 64 * q + 64 + 1 < length before
  inside = omega arith

  others : (k : ℕ) → (k ≡ 64 * q + 64 + 1 → ⊥) → get_or begun k 𝓔.none ≡ get_or before k 𝓔.none
  others k differs = rw stored (get_or-set_other before (64 * q + 64 + 1) k one 𝓔.none differs)

  pub block_made : (after : List E) → BlockGrown 𝓔 begun q 5 after → BlockGrown 𝓔 before q 5 after
  block_made after made = record {
    same_length = made.same_length ∙ ap length stored ∙ length-set before (64 * q + 64 + 1) one;
    holds = λ r b l m.
        made.holds r b l m
        ∙ bitwise-alike 𝓔 before begun (λ k n. others k (λ e. omega arith)) r (5 * q + (5 - r)) b (omega arith);
    first = λ k l. made.first k l ∙ others k (λ e. omega arith);
  }
