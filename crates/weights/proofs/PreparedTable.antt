-- A side's table as `prepare` fills it: the factors of the coordinates, and where there are blocks the weights of limbs.
-- Before the blocks are made, the last limb is filled up.
use Prim.Native.Nat.{ℕ, ◌+◌, ◌*◌, ◌/◌, ◌≤◌, ◌<◌}
use mathlib.Core.List.{List}
use mathlib.Core.Path.{◌≡◌, sym, ap, ◌∙◌}
use native.Mathlib.Decide.{dec_lt}
use native.Mathlib.Omega.{arith}
use lib.ListN.{length, get_or}
use Rattle.multilinear.proofs.Bits.{sub-nought}
use Rattle.multilinear.proofs.EqAtBits.{eq-factor-unit, eq-factor-nought}
use Rattle.scalar.specs.Elements.{Elements, LawfulElements}
use Rattle.weights.specs.Side.{pairs, factor_of, filled, Prepared, Tabled, Ready, Paired, FilledUp, Complements, BlocksMade}
use Rattle.weights.proofs.FactorsWritten.{bitwise-alike}

module _ {E : Type 0} (𝓔 : Elements E) (𝓛 : LawfulElements E 𝓔) (coordinates : List 𝓔.scalars.arithmetic.Carrier) (before paired-table : List E)
    (few : length coordinates ≤ 30) (ready : Ready before) (paired : Paired 𝓔 coordinates before (length coordinates) paired-table) where
  open 𝓔.scalars.arithmetic use {nought, unit, sub}

  room : 64 ≤ length paired-table
  room = omega (arith, ready.room, paired.same_length)

  -- a table with blocks
  module _ (long : 64 < length paired-table) (limbs : ℕ) (limbs-are : limbs ≡ (length coordinates + 4) / 5) (filled-table : List E)
      (filled-up : FilledUp 𝓔 paired-table (length coordinates) (5 * limbs) filled-table) where
    places : 448 ≤ length filled-table
    places =
        let lent : 64 < length before = omega (arith, paired.same_length) in
        omega (arith, filled-up.same_length, paired.same_length, ready.long lent)

    -- the factors of the coordinates are as they were
    factor : (i bit : ℕ) → i < length coordinates → bit < 2 → pairs 𝓔 filled-table i bit ≡ factor_of 𝓔.scalars.arithmetic coordinates i bit
    factor i bit l b = ap 𝓔.element (filled-up.first (2 * i + bit) (omega arith)) ∙ paired.factors_of i bit l b

    -- there are places for the blocks, and the factors of their bits are complements
    pub blocks-fit : ((i : ℕ) → i < length coordinates → 𝓛.lawful.field.ring.Valid (get_or coordinates i nought)) →
        (limbs ≤ 6) × (448 ≤ length filled-table) × Complements 𝓔 (5 * limbs) filled-table
    blocks-fit valid = (omega arith, places, λ i l. complement i l (dec_lt i (length coordinates)))
      where
        complement : (i : ℕ) → i < 5 * limbs → Dec (i < length coordinates) →
            pairs 𝓔 filled-table i 0 ≡ sub unit (pairs 𝓔 filled-table i 1)
        complement i l (yes m) =
            let r = get_or coordinates i nought in
            factor i 0 m (omega arith)
            ∙ eq-factor-nought 𝓔.scalars.arithmetic 𝓛.lawful.field.ring r
            ∙ ap (sub unit) (sym (factor i 1 m (omega arith) ∙ eq-factor-unit 𝓔.scalars.arithmetic 𝓛.lawful.field.ring r (valid i m)))
        complement i l (no m) =
            let known = filled-up.ones i (omega (arith, m)) l in
            known.0 ∙ sym (sub-nought 𝓔.scalars.arithmetic 𝓛.lawful.field.ring) ∙ ap (sub unit) (sym known.1)

    module _ (table : List E) (made : BlocksMade 𝓔 filled-table limbs table) where
      prepared-for : (n : ℕ) → n ≤ 5 * limbs → Prepared 𝓔 n table
      prepared-for n l = record {
        few = omega arith;
        room = omega (arith, places, made.same_length);
        limbs = λ m. record {
          room = omega (arith, places, made.same_length);
          holds = λ q r b o r-few b-less.
              made.holds q r b (omega arith) r-few b-less
              ∙ sym (bitwise-alike 𝓔 filled-table table made.first r _ b (omega arith));
        };
      }

      pub tabled-long : Tabled 𝓔 coordinates table
      tabled-long = record {
        side = record {
          short = prepared-for (length coordinates) (omega arith);
          long = λ l. prepared-for (filled (length coordinates)) (omega arith);
          beyond = λ l i m n. ap 𝓔.element (made.first (2 * i + 0) (omega arith)) ∙ (filled-up.ones i m (omega arith)).0;
        };
        factors_of = λ i bit l b. ap 𝓔.element (made.first (2 * i + bit) (omega arith)) ∙ factor i bit l b;
      }
