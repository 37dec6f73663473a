-- The weights of limbs in a side's table: where the weight over the last bits of a limb stands.
-- A table for more bits is one for fewer.
use Prim.Native.Nat.{ℕ, ◌+◌, ◌-◌, ◌*◌, ◌/◌, ◌%◌, ◌^◌, ◌≤◌, ◌<◌}
use mathlib.Core.List.{List}
use mathlib.Core.Path.{◌≡◌, sym, ap, ◌∙◌}
use native.Mathlib.Nat.{div-add-mod', mod-lt}
use native.Mathlib.Omega.{arith}
use lib.ListN.{length}
use lib.Pow.{pow_pos}
use Rattle.field.proofs.OneShifted.{one_shifted}
use Rattle.multilinear.specs.Eq.{bitwise}
use Rattle.multilinear.proofs.Bitwise.{bitwise-low}
use Rattle.scalar.specs.Elements.{Elements, LawfulElements}
use Rattle.weights.specs.Side.{element_in, pairs, Limbs, Prepared}
use Rattle.weights.proofs.LimbSizes.{place_inside}

-- how many weights there are over so many bits, as a shift works it out: some, and few enough that a place behind them lies in the block
abbrev pub size : ℕ → ℕ
size bits = (1 * 2 ^ bits) % 4294967296

pub offset-small : (a bits : ℕ) → bits ≤ 5 → size bits + a % size bits < 64
offset-small a bits l = rw (one_shifted 32 bits (omega arith)) (place_inside bits (a % 2 ^ bits) l (mod-lt a (pow_pos bits)))

-- a table for n bits is one for fewer
limbs-fewer : {E : Type 0} (𝓔 : Elements E) (n k : ℕ) (table : List E) → k ≤ n → Limbs 𝓔 n table → Limbs 𝓔 k table
limbs-fewer 𝓔 n k table l limbs =
    record {
      room = omega (arith, limbs.room);
      holds = λ q r b m. limbs.holds q r b (omega arith);
    }

pub fewer : {E : Type 0} (𝓔 : Elements E) (n k : ℕ) (table : List E) → k ≤ n → Prepared 𝓔 n table → Prepared 𝓔 k table
fewer 𝓔 n k table l side =
    record {
      few = omega (arith, side.few);
      room = side.room;
      limbs = λ long. limbs-fewer 𝓔 (n / 5) (k / 5) table (omega arith) (side.limbs long);
    }

-- the place of a weight over the last bits of a limb, and the weight that stands there
module _ {E : Type 0} (𝓔 : Elements E) (𝓛 : LawfulElements E 𝓔) (table : List E) (a limb bits : ℕ) (l : bits ≤ 5) (long : 64 < length table)
    (side : Prepared 𝓔 (5 * limb + 5) table) where
  blocks : limb < (5 * limb + 5) / 5
  blocks = omega arith

  pub limb-inside : 64 * limb + 64 + (size bits + a % size bits) < length table
  limb-inside = omega (arith, offset-small a bits l, (side.limbs long).room, blocks)

  pub limb-holds :
      element_in 𝓔 table (64 * limb + 64 + (size bits + a % size bits))
      ≡ bitwise 𝓔.scalars.arithmetic (pairs 𝓔 table) bits (5 * limb + (5 - bits)) a
  limb-holds =
      rw (one_shifted 32 bits (omega arith))
      ((side.limbs long).holds limb bits (a % 2 ^ bits) blocks l (mod-lt a (pow_pos bits))
      ∙ sym (bitwise-low 𝓔.scalars.arithmetic 𝓛.lawful.field.ring (pairs 𝓔 table) bits (5 * limb + (5 - bits)) (a / 2 ^ bits) (a % 2 ^ bits))
      ∙ ap (bitwise 𝓔.scalars.arithmetic (pairs 𝓔 table) bits (5 * limb + (5 - bits))) (div-add-mod' a (2 ^ bits)))
