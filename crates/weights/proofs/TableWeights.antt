-- A table of coordinates weighs numbers as the coordinates do: by eq of the number's bits and them.
use Prim.Native.Nat.{ℕ, zero, suc, ◌+◌, ◌/◌, ◌%◌, ◌≤◌, ◌<◌}
use mathlib.Core.Bool.{cond}
use mathlib.Core.List.{List}
use mathlib.Core.Path.{◌≡◌, refl, sym, ap, ap₂, ◌∙◌}
use native.Mathlib.Omega.{arith}
use lib.Dec.{eqb}
use lib.ListN.{length, get_or, take, drop, length-drop}
use lib.Seq.{slice, slice-cons, get_or-drop}
use Rattle.multilinear.specs.Eq.{eq, bitwise}
use Rattle.multilinear.specs.Weight.{weight, bits}
use Rattle.multilinear.proofs.Bitwise.{bitwise-weight}
use Rattle.multilinear.proofs.EqAtBits.{eq-factor-bit}
use Rattle.scalar.specs.Elements.{Elements, LawfulElements}
use Rattle.weights.specs.Side.{pairs, Tabled}

module _ {E : Type 0} (𝓔 : Elements E) (𝓛 : LawfulElements E 𝓔) (coordinates : List 𝓔.scalars.arithmetic.Carrier) (table : List E)
    (valid : (i : ℕ) → i < length coordinates → 𝓛.lawful.field.ring.Valid (get_or coordinates i 𝓔.scalars.arithmetic.nought))
    (tabled : Tabled 𝓔 coordinates table) where
  open 𝓔.scalars.arithmetic use {nought, unit, sub}

  factor : (i bit : ℕ) → i < length coordinates → bit < 2 →
      pairs 𝓔 table i bit ≡ cond (eqb bit 1) (get_or coordinates i nought) (sub unit (get_or coordinates i nought))
  factor i bit l b =
      tabled.factors_of i bit l b
      ∙ eq-factor-bit 𝓔.scalars.arithmetic 𝓛.lawful.field.ring (eqb bit 1) (get_or coordinates i nought) (valid i l)

  -- over the bits from one on, so many
  pub weighs-from : (from k x : ℕ) → from + k ≤ length coordinates →
      bitwise 𝓔.scalars.arithmetic (pairs 𝓔 table) k from x ≡ weight 𝓔.scalars.arithmetic x (take k (drop from coordinates))
  weighs-from from k x l =
      bitwise-weight 𝓔.scalars.arithmetic (pairs 𝓔 table) nought k from x (drop from coordinates)
      (omega (arith, length-drop from coordinates))
      (λ i bit m b.
      factor (from + i) bit (omega arith) b
      ∙ ap (λ (r : 𝓔.scalars.arithmetic.Carrier). cond (eqb bit 1) r (sub unit r)) (sym (get_or-drop from coordinates i nought)))

-- over any bits that follow one another the weight is eq of the number's bits and the coordinates there
module _ {E : Type 0} (𝓔 : Elements E) (coordinates : List 𝓔.scalars.arithmetic.Carrier) (table : List E) (tabled : Tabled 𝓔 coordinates table) where
  open 𝓔.scalars.arithmetic use {nought, mul}

  pub weighs-eq : (k from x : ℕ) → from + k ≤ length coordinates →
      bitwise 𝓔.scalars.arithmetic (pairs 𝓔 table) k from x
      ≡ eq 𝓔.scalars.arithmetic (bits 𝓔.scalars.arithmetic k x) (slice from (from + k) coordinates)
  unfolding bitwise eq bits
  weighs-eq zero from x l = refl
  weighs-eq (suc k) from x l =
      let next : suc from + k ≡ from + suc k = omega arith in
      ap₂ mul (tabled.factors_of from (x % 2) (omega arith) (omega arith))
      (weighs-eq k (suc from) (x / 2) (omega arith)
      ∙ ap (λ (to : ℕ). eq 𝓔.scalars.arithmetic (bits 𝓔.scalars.arithmetic k (x / 2)) (slice (suc from) to coordinates)) next)
      ∙ sym (ap (eq 𝓔.scalars.arithmetic (bits 𝓔.scalars.arithmetic (suc k) x))
      (slice-cons from (from + suc k) coordinates nought (omega arith) l))
