-- The factors of single bits: as they are written, two a turn, and where two tables have them alike.
use Prim.Native.Nat.{ℕ, zero, suc, ◌+◌, ◌*◌, ◌≤◌, ◌<◌}
use mathlib.Core.List.{List, [], ◌∷◌}
use mathlib.Core.Path.{◌≡◌, sym, ap, ◌∙◌}
use native.Mathlib.Decide.{ℕ_discrete}
use native.Mathlib.Omega.{arith}
use lib.ListN.{length, get_or}
use lib.Seq.{sets}
use Rattle.multilinear.specs.Eq.{eq_factor, bitwise}
use Rattle.multilinear.proofs.Bitwise.{bitwise-same}
use Rattle.multilinear.proofs.EqAtBits.{eq-factor-unit, eq-factor-nought}
use Rattle.scalar.specs.Elements.{Elements, LawfulElements}
use Rattle.weights.specs.Side.{pairs, factor_of, Paired}
use Rattle.weights.proofs.StoredValues.{TwoStored, two-stored}

-- tables whose first 64 places are alike
module _ {E : Type 0} (𝓔 : Elements E) (table table' : List E) (same : (k : ℕ) → k < 64 → get_or table' k 𝓔.none ≡ get_or table k 𝓔.none) where
  alike : (i bit : ℕ) → i < 30 → bit < 2 → pairs 𝓔 table' i bit ≡ pairs 𝓔 table i bit
  alike i bit l b = ap 𝓔.element (same (2 * i + bit) (omega arith))

  pub bitwise-alike : (k from a : ℕ) → from + k ≤ 30 →
      bitwise 𝓔.scalars.arithmetic (pairs 𝓔 table') k from a ≡ bitwise 𝓔.scalars.arithmetic (pairs 𝓔 table) k from a
  bitwise-alike k from a l =
      bitwise-same 𝓔.scalars.arithmetic (pairs 𝓔 table') (pairs 𝓔 table) k from from a (λ i bit m b. alike (from + i) bit (omega arith) b)

-- the factors of coordinates
module _ {E : Type 0} (𝓔 : Elements E) (𝓛 : LawfulElements E 𝓔) (coordinates : List 𝓔.scalars.arithmetic.Carrier) (before : List E) where
  open 𝓔.scalars.arithmetic use {Carrier, nought, unit, sub}

  pub pairing-turn : (table after : List E) (i : ℕ) (one : Carrier) (even odd : E) → 2 * i + 1 < length table →
      Paired 𝓔 coordinates before i table → one ≡ unit → 𝓔.element odd ≡ get_or coordinates i nought →
      𝓔.element even ≡ sub one (𝓔.element odd) → after ≡ sets table (2 * i) (even ∷ odd ∷ []) → Paired 𝓔 coordinates before (i + 1) after
  pairing-turn table after i one even odd room so_far one-is odd_is even-of stored = record {
    same_length = put.same_length ∙ so_far.same_length;
    factors_of = λ j bit m b. each j bit (ℕ_discrete j i) m b;
  }
    where
      put : TwoStored 𝓔 table (2 * i) even odd after
      put = two-stored 𝓔 table after (2 * i) even odd room stored

      even_is : 𝓔.element even ≡ eq_factor 𝓔.scalars.arithmetic nought (𝓔.element odd)
      even_is =
          even-of
          ∙ ap (λ (x : Carrier). sub x (𝓔.element odd)) one-is
          ∙ sym (eq-factor-nought 𝓔.scalars.arithmetic 𝓛.lawful.field.ring (𝓔.element odd))

      odd_factor : 𝓔.element odd ≡ eq_factor 𝓔.scalars.arithmetic unit (𝓔.element odd)
      odd_factor = sym (eq-factor-unit 𝓔.scalars.arithmetic 𝓛.lawful.field.ring (𝓔.element odd) (𝓛.valid odd))

      coordinate : (j : ℕ) → j ≡ i → 𝓔.element odd ≡ get_or coordinates j nought
      coordinate j same = odd_is ∙ ap (λ (k : ℕ). get_or coordinates k nought) (sym same)

      here : (j bit : ℕ) → j ≡ i → bit < 2 → pairs 𝓔 after j bit ≡ factor_of 𝓔.scalars.arithmetic coordinates j bit
      here j zero same b =
          ap 𝓔.element (put.here (2 * j + 0) (omega arith))
          ∙ even_is
          ∙ ap (eq_factor 𝓔.scalars.arithmetic nought) (coordinate j same)
      here j (suc zero) same b =
          ap 𝓔.element (put.next (2 * j + 1) (omega arith))
          ∙ odd_factor
          ∙ ap (eq_factor 𝓔.scalars.arithmetic unit) (coordinate j same)
      here j (suc (suc bit)) same b = absurd (omega arith)

      each : (j bit : ℕ) → Dec (j ≡ i) → j < i + 1 → bit < 2 → pairs 𝓔 after j bit ≡ factor_of 𝓔.scalars.arithmetic coordinates j bit
      each j bit (yes same) m b = here j bit same b
      each j bit (no differ) m b =
          ap 𝓔.element (put.others (2 * j + bit) (λ e. differ (omega arith)) (λ e. differ (omega arith)))
          ∙ so_far.factors_of j bit (omega (arith, differ)) b
