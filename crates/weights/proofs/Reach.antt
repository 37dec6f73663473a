-- How far weights over the bits of a side may be taken: over these bits alone, and where they are all, to the end of the last limb.
use Prim.Native.Nat.{ℕ, ◌+◌, ◌-◌, ◌^◌, ◌<◌}
use mathlib.Core.List.{List}
use mathlib.Core.Path.{◌≡◌, sym, ap, subst, ◌∙◌}
use native.Mathlib.Omega.{arith}
use lib.ListN.{length}
use Rattle.multilinear.specs.Eq.{bitwise}
use Rattle.multilinear.proofs.Bitwise.{bitwise-beyond}
use Rattle.scalar.specs.Elements.{Elements, LawfulElements}
use Rattle.weights.specs.Side.{pairs, filled, ForSide, Reaches}

pub reaches_end : {E : Type 0} (𝓔 : Elements E) → LawfulElements E 𝓔 → (most bits : ℕ) (table : List E) → bits ≡ most → 64 < length table →
    ForSide 𝓔 most table → Reaches 𝓔 table bits (filled bits)
reaches_end 𝓔 𝓛 most bits table all-bits long side =
    rw all-bits (record {
      further = omega arith;
      side = side.long long;
      same = λ from a m n.
          let all : filled most - from ≡ (most - from) + (filled most - most) = omega arith in
          ap (λ (k : ℕ). bitwise 𝓔.scalars.arithmetic (pairs 𝓔 table) k from a) all
          ∙ bitwise-beyond 𝓔.scalars.arithmetic 𝓛.lawful.field.ring (pairs 𝓔 table) (most - from) (filled most - most) from a n
          (λ i u v. side.beyond long i (omega arith) (omega arith));
    })

-- a number's weight over the first bits of a side, taken further
pub same_first : {E : Type 0} (𝓔 : Elements E) (table : List E) (bits to : ℕ) → Reaches 𝓔 table bits to → (a : ℕ) → a < 2 ^ bits →
    bitwise 𝓔.scalars.arithmetic (pairs 𝓔 table) (to - 0) 0 a ≡ bitwise 𝓔.scalars.arithmetic (pairs 𝓔 table) (bits - 0) 0 a
same_first 𝓔 table bits to far a l =
    let all : bits - 0 ≡ bits = omega arith in far.same 0 a (omega arith) (subst (λ (n : ℕ). a < 2 ^ n) (sym all) l)
