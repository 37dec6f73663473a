-- The factors of bits in a side's table: one is the weight over its bit alone, and four are multiplied one by one.
-- A part of the table has the factors of the bits in it.
use Prim.Native.Nat.{ℕ, ◌+◌, ◌-◌, ◌*◌, ◌/◌, ◌%◌, ◌≤◌, ◌<◌}
use mathlib.Core.List.{List}
use mathlib.Core.Path.{◌≡◌, sym, ap, ap₂, ◌∙◌}
use native.Mathlib.Omega.{arith}
use lib.ListN.{length, get_or, take, drop, length-drop}
use lib.Seq.{length-take-le, get_or-take, get_or-drop}
use Rattle.multilinear.specs.Eq.{bitwise}
use Rattle.multilinear.proofs.Bitwise.{bitwise-same}
use Rattle.scalar.specs.Elements.{Elements, LawfulElements}
use Rattle.weights.specs.Side.{element_in, pairs}

module _ {E : Type 0} (𝓔 : Elements E) (𝓛 : LawfulElements E 𝓔) (table : List E) where
  open 𝓔.scalars.arithmetic use {Carrier, mul}
  open 𝓛.lawful.field.ring use {Valid, mul_assoc, mul-unit}

  valid : (k : ℕ) → Valid (element_in 𝓔 table k)
  valid k = 𝓛.valid (get_or table k 𝓔.none)

  pub factor-alone : (at a : ℕ) → pairs 𝓔 table at (a % 2) ≡ bitwise 𝓔.scalars.arithmetic (pairs 𝓔 table) 1 at a
  unfolding bitwise
  factor-alone at a = sym (mul-unit (pairs 𝓔 table at (a % 2)) (valid (2 * at + a % 2)))

  pub four-factors : (a : ℕ) (w x y z : Carrier) →
      w ≡ pairs 𝓔 table 0 (a % 2) → x ≡ pairs 𝓔 table 1 (a / 2 % 2) → y ≡ pairs 𝓔 table 2 (a / 4 % 2) →
      z ≡ pairs 𝓔 table 3 (a / 8 % 2) → mul (mul (mul w x) y) z ≡ bitwise 𝓔.scalars.arithmetic (pairs 𝓔 table) 4 0 a
  unfolding bitwise
  four-factors a w x y z ew ex ey ez =
      let quarter : a / 4 % 2 ≡ a / 2 / 2 % 2 = omega arith in
      let eighth : a / 8 % 2 ≡ a / 2 / 2 / 2 % 2 = omega arith in
      let last = pairs 𝓔 table 3 (a / 2 / 2 / 2 % 2) in
      mul_assoc (mul w x) y z
      ∙ mul_assoc w x (mul y z)
      ∙ ap₂ mul ew
      (ap₂ mul ex
      (ap₂ mul (ey ∙ ap (pairs 𝓔 table 2) quarter)
      (ez ∙ ap (pairs 𝓔 table 3) eighth ∙ sym (mul-unit last (valid (2 * 3 + a / 2 / 2 / 2 % 2))))))

-- Factors from a place on, so many, as a part of a table has them: their number,
pub part_length : {E : Type 0} (table : List E) (s m : ℕ) → s + m ≤ length table → length (take m (drop s table)) ≡ m
part_length table s m l = length-take-le m (drop s table) (omega (arith, length-drop s table))

-- and the weight by them: that by the table, from the bit on that the place belongs to.
pub part-weight : {E : Type 0} (𝓔 : Elements E) (table : List E) (s m from n a : ℕ) → s ≡ 2 * from → m ≡ 2 * n →
    bitwise 𝓔.scalars.arithmetic (pairs 𝓔 (take m (drop s table))) n 0 a ≡ bitwise 𝓔.scalars.arithmetic (pairs 𝓔 table) n from a
part-weight 𝓔 table s m from n a start all =
    bitwise-same 𝓔.scalars.arithmetic (pairs 𝓔 (take m (drop s table))) (pairs 𝓔 table) n 0 from a (λ i bit l b.
    let place : s + (2 * (0 + i) + bit) ≡ 2 * (from + i) + bit = omega arith in
    ap 𝓔.element
    (get_or-take m (drop s table) (2 * (0 + i) + bit) 𝓔.none (omega arith)
    ∙ get_or-drop s table (2 * (0 + i) + bit) 𝓔.none
    ∙ ap (λ (k : ℕ). get_or table k 𝓔.none) place))

-- Behind the first of the bits from one up to another, fours go up to a bit that is at most the last.
pub fours-end : (from to : ℕ) → from < to →
    (from + 1 ≤ to - (to - from - 1) % 4) × (to - (to - from - 1) % 4 ≤ to) × ((to - (to - from - 1) % 4 - (from + 1)) % 4 ≡ 0)
fours-end from to l = (omega arith, omega arith, omega arith)

-- their factors, as a part of the table
abbrev fours : {E : Type 0} → List E → ℕ → ℕ → List E
fours table from at = take (2 * at - (2 * from + 2)) (drop (2 * from + 2) table)

fours-length : {E : Type 0} (table : List E) (from at : ℕ) → from + 1 ≤ at → 2 * at ≤ length table →
    length (fours table from at) ≡ 2 * at - (2 * from + 2)
fours-length table from at l room = part_length table (2 * from + 2) (2 * at - (2 * from + 2)) (omega arith)

pub fours-weight : {E : Type 0} (𝓔 : Elements E) (table : List E) (from at : ℕ) → from + 1 ≤ at → 2 * at ≤ length table → (a : ℕ) →
    bitwise 𝓔.scalars.arithmetic (pairs 𝓔 (fours table from at)) (length (fours table from at) / 2) 0 a
    ≡ bitwise 𝓔.scalars.arithmetic (pairs 𝓔 table) (at - (from + 1)) (from + 1) a
fours-weight 𝓔 table from at l room a =
    let bits : length (fours table from at) / 2 ≡ at - (from + 1) = omega (arith, fours-length table from at l room) in
    ap (λ (n : ℕ). bitwise 𝓔.scalars.arithmetic (pairs 𝓔 (fours table from at)) n 0 a) bits
    ∙ part-weight 𝓔 table (2 * from + 2) (2 * at - (2 * from + 2)) (from + 1) (at - (from + 1)) a (omega arith) (omega arith)
