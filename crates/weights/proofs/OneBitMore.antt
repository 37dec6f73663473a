-- Weights over one bit more, as they are made from those over the bits behind it: two a turn.
use Prim.Native.Nat.{ℕ, ◌+◌, ◌*◌, ◌≤◌, ◌<◌}
use mathlib.Core.List.{List, [], ◌∷◌}
use mathlib.Core.Path.{◌≡◌, sym, ap, ◌∙◌}
use native.Mathlib.Decide.{ℕ_discrete}
use native.Mathlib.Omega.{arith}
use lib.ListN.{length, get_or}
use lib.Seq.{sets}
use Rattle.algebra.specs.Arithmetic.{Arithmetic}
use Rattle.algebra.specs.Field.{Ring}
use Rattle.algebra.proofs.Rings.{cancel}
use Rattle.scalar.specs.Elements.{Elements, LawfulElements}
use Rattle.weights.specs.Side.{element_in, Widened}
use Rattle.weights.proofs.StoredValues.{TwoStored, two-stored}

-- Of a weight w, what the part w·r for the bit 1 leaves is the part (1 - r)·w for the bit 0, since (1 - r)·w + w·r = w.
module _ (𝓐 : Arithmetic) (𝓡 : Ring 𝓐) where
  open 𝓐 use {Carrier, unit, add, sub, mul}
  open 𝓡 use {Valid, valid_unit, valid_sub, valid_mul, sub-add, mul_comm, mul-unit, mul-add}

  whole : (w r : Carrier) → Valid w → Valid r → add (mul (sub unit r) w) (mul w r) ≡ w
  whole w r v u =
      ap (λ (x : Carrier). add x (mul w r)) (mul_comm (sub unit r) w)
      ∙ sym (mul-add w (sub unit r) r)
      ∙ ap (mul w) (sub-add unit r valid_unit u)
      ∙ mul-unit w v

  left_over : (w r : Carrier) → Valid w → Valid r → sub w (mul w r) ≡ mul (sub unit r) w
  left_over w r v u =
      cancel 𝓐 𝓡 (sub w (mul w r)) (mul (sub unit r) w) (mul w r) (valid_sub w (mul w r)) (valid_mul (sub unit r) w) (valid_mul w r)
      (sub-add w (mul w r) v (valid_mul w r) ∙ sym (whole w r v u))

module _ {E : Type 0} (𝓔 : Elements E) (𝓛 : LawfulElements E 𝓔) (before : List E) (base half : ℕ) (odd : 𝓔.scalars.arithmetic.Carrier) where
  open 𝓔.scalars.arithmetic use {Carrier, unit, sub, mul}

  pub widening-turn : (table after : List E) (j : ℕ) (w : Carrier) (part even : E) → half ≤ j → j < 2 * half →
      base + 2 * j + 1 < length table → 𝓛.lawful.field.ring.Valid odd → Widened 𝓔 before base half odd j table → w ≡ element_in 𝓔 table (base + j) →
      𝓔.element part ≡ mul w odd → 𝓔.element even ≡ sub w (𝓔.element part) →
      after ≡ sets table (base + 2 * j) (even ∷ part ∷ []) → Widened 𝓔 before base half odd (j + 1) after
  widening-turn table after j w part even l m room valid so_far read part_of even-of stored = record {
    same_length = put.same_length ∙ so_far.same_length;
    evens = λ i n o. each-even i (ℕ_discrete i j) n o;
    odds = λ i n o. each-odd i (ℕ_discrete i j) n o;
    first = λ k n. put.others k (λ e. omega arith) (λ e. omega arith) ∙ so_far.first k n;
  }
    where
      put : TwoStored 𝓔 table (base + 2 * j) even part after
      put = two-stored 𝓔 table after (base + 2 * j) even part room stored

      read-valid : 𝓛.lawful.field.ring.Valid w
      read-valid = rw read (𝓛.valid (get_or table (base + j) 𝓔.none))

      -- the weight that is read is as it was
      was : (i : ℕ) → i ≡ j → w ≡ element_in 𝓔 before (base + i)
      was i same =
          let place : base + j ≡ base + i = omega arith in
          read ∙ ap 𝓔.element (so_far.first (base + j) (omega arith)) ∙ ap (element_in 𝓔 before) place

      each-even : (i : ℕ) → Dec (i ≡ j) → half ≤ i → i < j + 1 →
          element_in 𝓔 after (base + 2 * i) ≡ mul (sub unit odd) (element_in 𝓔 before (base + i))
      each-even i (yes same) n o =
          ap 𝓔.element (put.here (base + 2 * i) (omega arith))
          ∙ even-of
          ∙ ap (sub w) part_of
          ∙ left_over 𝓔.scalars.arithmetic 𝓛.lawful.field.ring w odd read-valid valid
          ∙ ap (mul (sub unit odd)) (was i same)
      each-even i (no differ) n o =
          ap 𝓔.element (put.others (base + 2 * i) (λ e. differ (omega arith)) (λ e. omega arith))
          ∙ so_far.evens i n (omega (arith, differ))

      each-odd : (i : ℕ) → Dec (i ≡ j) → half ≤ i → i < j + 1 →
          element_in 𝓔 after (base + 2 * i + 1) ≡ mul odd (element_in 𝓔 before (base + i))
      each-odd i (yes same) n o =
          ap 𝓔.element (put.next (base + 2 * i + 1) (omega arith))
          ∙ part_of
          ∙ 𝓛.lawful.field.ring.mul_comm w odd
          ∙ ap (mul odd) (was i same)
      each-odd i (no differ) n o =
          ap 𝓔.element (put.others (base + 2 * i + 1) (λ e. omega arith) (λ e. differ (omega arith)))
          ∙ so_far.odds i n (omega (arith, differ))
