-- A table with one value, or two one behind the other, stored in it.
use Prim.Native.Nat.{ℕ, suc, ◌+◌, ◌<◌}
use mathlib.Core.List.{List, [], ◌∷◌}
use mathlib.Core.Path.{◌≡◌, ◌∙◌}
use native.Mathlib.Omega.{arith}
use lib.ListN.{length, get_or, set, length-set}
use lib.Seq.{sets, get_or-set_same, get_or-set_other}
use Rattle.scalar.specs.Elements.{Elements}

-- a table before and after two values are stored at a place and the next
pub record TwoStored {E : Type 0} (𝓔 : Elements E) (table : List E) (at : ℕ) (a b : E) (after : List E) : Type 0 where
  pub same_length : length after ≡ length table
  pub here : (k : ℕ) → k ≡ at → get_or after k 𝓔.none ≡ a
  pub next : (k : ℕ) → k ≡ at + 1 → get_or after k 𝓔.none ≡ b
  pub others : (k : ℕ) → (k ≡ at → ⊥) → (k ≡ at + 1 → ⊥) → get_or after k 𝓔.none ≡ get_or table k 𝓔.none

pub two-stored : {E : Type 0} (𝓔 : Elements E) (table after : List E) (at : ℕ) (a b : E) → at + 1 < length table → after ≡ sets table at (a ∷ b ∷ []) →
    TwoStored 𝓔 table at a b after
two-stored {E} 𝓔 table after at a b room stored = rw stored (record {
  same_length = length-set once (suc at) b ∙ length-set table at a;
  here = λ k e. rw e (get_or-set_other once (suc at) at b 𝓔.none (λ bad. omega arith) ∙ get_or-set_same table at a 𝓔.none at_room);
  next = λ k e. let place : k ≡ suc at = omega arith in rw place (get_or-set_same once (suc at) b 𝓔.none once-room);
  others = λ k differs differs'.
      get_or-set_other once (suc at) k b 𝓔.none (λ e. differs' (omega arith)) ∙ get_or-set_other table at k a 𝓔.none differs;
})
  where
    once : List E
    once = set table at a

    at_room : at < length table
    at_room = omega arith

    once-room : suc at < length once
    once-room = omega (arith, length-set table at a)
