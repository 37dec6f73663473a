-- The rules of a call whose called array is known: behind a broken rule the later ones do not matter.
use Rattle.std.specs.Prelude.{Ok}
use Prim.Native.Nat.{ℕ}
use mathlib.Core.Bool.{Bool, true, false}
use mathlib.Core.List.{List, [], ◌∷◌}
use mathlib.Core.Path.{◌≡◌, refl, ap₂}
use Rattle.refusal.specs.declared.Reason.{Reason}
use Rattle.rules.specs.Inner.{held_to}
use Rattle.rules.specs.Rules.{Rule, rule}

-- the rules of a call whose called array is known: too large in rows or columns, at too great a position
abbrev fitting : Bool → Bool → Bool → Bool → List Rule
fitting rows columns far-down far-right =
    rule Reason.CalledTooLarge rows ∷
    rule Reason.CalledTooLarge columns ∷
    rule Reason.PositionTooGreat far-down ∷
    rule Reason.PositionTooGreat far-right ∷
    []

-- 10 shields 11: where the called array is too large in a side, its position there does not matter
larger-shields : (at : ℕ) (rows columns : Bool) {a a' b b' : Bool} → (rows ≡ false → a ≡ b) → (columns ≡ false → a' ≡ b') →
    held_to (Ok tt) at (fitting rows columns a a') ≡ held_to (Ok tt) at (fitting rows columns b b')
larger-shields at true columns e e' = refl
larger-shields at false true e e' = refl
larger-shields at false false e e' = ap₂ (λ (a a' : Bool). held_to (Ok tt) at (fitting false false a a')) (e refl) (e' refl)
