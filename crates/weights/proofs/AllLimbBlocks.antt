-- The blocks of limb weights as they are made, one a turn.
use Prim.Native.Nat.{ℕ, ◌+◌, ◌-◌, ◌*◌, ◌^◌, ◌≤◌, ◌<◌}
use mathlib.Core.List.{List}
use mathlib.Core.Path.{◌≡◌, ap, ◌∙◌}
use native.Mathlib.Decide.{ℕ_discrete}
use native.Mathlib.Omega.{arith}
use Rattle.multilinear.specs.Eq.{bitwise}
use Rattle.scalar.specs.Elements.{Elements}
use Rattle.weights.specs.Side.{element_in, limb_place, pairs, BlocksMade, BlockGrown}
use Rattle.weights.proofs.FactorsWritten.{bitwise-alike}
use Rattle.weights.proofs.LimbSizes.{place_inside}

module _ {E : Type 0} (𝓔 : Elements E) (before : List E) where
  pub blocks-turn : (table after : List E) (block : ℕ) → block < 6 → BlocksMade 𝓔 before block table → BlockGrown 𝓔 table block 5 after →
      BlocksMade 𝓔 before (block + 1) after
  blocks-turn table after block few so_far made = record {
    same_length = made.same_length ∙ so_far.same_length;
    holds = λ q r b l m n. hold q r b (ℕ_discrete q block) l m n;
    first = λ k l. made.first k (omega arith) ∙ so_far.first k l;
  }
    where
      hold : (q r b : ℕ) → Dec (q ≡ block) → q < block + 1 → r ≤ 5 → b < 2 ^ r →
          element_in 𝓔 after (limb_place q r b) ≡ bitwise 𝓔.scalars.arithmetic (pairs 𝓔 before) r (5 * q + (5 - r)) b
      hold q r b (yes e) l m n =
          rw e (made.holds r b m n ∙ bitwise-alike 𝓔 before table so_far.first r (5 * block + (5 - r)) b (omega arith))
      hold q r b (no differ) l m n =
          let less : q < block = omega (arith, differ) in
          ap 𝓔.element (made.first (limb_place q r b) (omega (arith, place_inside r b m n))) ∙ so_far.holds q r b less m n
