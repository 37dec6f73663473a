-- The kinds that have a size, and the sizes of records.
use Prim.Native.Nat.{ℕ, ◌≤◌, ◌<◌}
use mathlib.Core.Bool.{Bool, true, false}
use mathlib.Core.Path.{◌≡◌, refl}
use native.Mathlib.Decide.{ℕ_discrete}
use native.Mathlib.Omega.{arith}
use borrow.Author.Tests.{ne_eqb}
use lib.ListN.{length}
use Rattle.records.specs.Inner.{size_of, call_size}
use Rattle.records.specs.Kinds.{kind_of, encoded}
use Rattle.records.specs.declared.Record.{Record}

-- a kind that has a size and is none of the seven others is that of an end
pub end-kind : (kind : ℕ) → (kind ≡ 1 → ⊥) → (kind ≡ 2 → ⊥) → (kind ≡ 3 → ⊥) → (kind ≡ 4 → ⊥) → (kind ≡ 5 → ⊥) →
    (kind ≡ 7 → ⊥) → (kind ≡ 8 → ⊥) → 0 < size_of kind → kind ≡ 6
end-kind kind a b c d e g h sized =
    elim (ℕ_discrete kind 6) [
      | yes f ↦ f
      | no f ↦ (let none : size_of kind ≡ 0 =
          simp (
            ne_eqb kind 1 a,
            ne_eqb kind 2 b,
            ne_eqb kind 3 c,
            ne_eqb kind 4 d,
            ne_eqb kind 5 e,
            ne_eqb kind 6 f,
            ne_eqb kind 7 g,
            ne_eqb kind 8 h,
          ) in
          absurd (omega arith))
    ]

pub size-encoded : (r : Record) → size_of (kind_of r) ≡ length (encoded r)
size-encoded (Record.Head shape) = refl
size-encoded (Record.Sparse shape) = refl
size-encoded (Record.Recursive shape) = refl
size-encoded (Record.Cell cell) = refl
size-encoded (Record.Call call) = refl
size-encoded Record.End = refl
size-encoded (Record.ScaledHead shape) = refl
size-encoded (Record.ScaledCall call) = refl

pub call-sizes : (scaled : Bool) → (11 ≤ call_size scaled) × (call_size scaled ≤ 15)
call-sizes false = omega arith
call-sizes true = omega arith
