-- Numbers two by two: element i is made of the numbers 2i and 2i + 1.
use Prim.Native.Nat.{ℕ, zero, suc, ◌+◌, ◌*◌, ◌/◌, ◌≤◌, ◌<◌}
use mathlib.Core.List.{List, [], ◌∷◌}
use mathlib.Core.Path.{◌≡◌, refl, sym, ap₂, subst, ◌∙◌}
use native.Mathlib.Omega.{arith}
use lib.ListN.{length, get_or}
use Rattle.field.specs.Fp.{p}
use Rattle.field.specs.Scalars.{element_at}
use Rattle.quadratic.specs.Fp2.{Reduced}
use Rattle.quadratic.specs.Quadratic.{two_by_two, quadratic}

-- element i is made of the numbers 2i and 2i + 1
pub two_at : (list : List ℕ) (i : ℕ) → 2 * suc i ≤ length list →
    element_at quadratic list i ≡ record { u = get_or list (2 * i) 0; v = get_or list (2 * i + 1) 0 }
unfolding two_by_two
two_at [] i l = absurd (omega arith)
two_at (u ∷ []) i l = absurd (omega arith)
two_at (u ∷ v ∷ list) zero l = refl
two_at (u ∷ v ∷ list) (suc i) l =
    let even : 2 * suc i ≡ suc (suc (2 * i)) = omega arith in
    let odd : 2 * suc i + 1 ≡ suc (suc (2 * i + 1)) = omega arith in
    two_at list i (omega arith)
    ∙ ap₂ (λ (j k : ℕ). record { u = get_or (u ∷ v ∷ list) j 0; v = get_or (u ∷ v ∷ list) k 0 }) (sym even) (sym odd)

-- and is reduced only where both are below p
pub two-below : (list : List ℕ) (i : ℕ) → 2 * suc i ≤ length list → Reduced (element_at quadratic list i) →
    (get_or list (2 * i) 0 < p) × (get_or list (2 * i + 1) 0 < p)
two-below list i l below = subst Reduced (two_at list i l) below

-- an element for each two numbers
pub two-count : (list : List ℕ) → length (two_by_two list) ≡ length list / 2
unfolding two_by_two
two-count [] = omega arith
two-count (u ∷ []) = omega arith
two-count (u ∷ v ∷ list) = omega (arith, two-count list)
