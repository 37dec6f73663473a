-- Two keys compared over the field of p²: where they are the same, also where their shapes differ.
use Prim.Native.Nat.{ℕ, ◌-◌}
use mathlib.Core.List.{[], ◌∷◌, map}
use mathlib.Core.Path.{◌≡◌, refl}
use lib.ListN.{replicate}
use Rattle.field.specs.Fp.{p}
use Rattle.quadratic.specs.Quadratic.{two_by_two, quadratic}
use Rattle.comparison.specs.Compare.{same, different, Comparison, compared}
use Rattle.comparison.proofs.Examples.{corner, none, answers}
use Rattle.comparison.proofs.ExamplesOfGrowth.{small, grown}
use Rattle.comparison.proofs.Computing.{comparing}

-- one cell at the last place against none: the same exactly where a coordinate is 0, u and v
abbrev corner_at_two : ℕ → ℕ → ℕ → ℕ → Comparison
corner_at_two u v u' v' = compared quadratic corner none (u ∷ v ∷ []) (u' ∷ v' ∷ []) (replicate 6 9)

corner-two-parts :
    answers (corner_at_two 0 0 7 7 ∷ corner_at_two 7 7 0 0 ∷ corner_at_two 0 1 1 0 ∷ corner_at_two 1 0 0 (p - 1) ∷ [])
    ≡ same ∷ same ∷ different ∷ different ∷ []
unfolding comparing two_by_two
corner-two-parts = refl

-- A key and its growth: at position 0 the same at every point, one row down where the row coordinate is a half or the column coordinate 1.
-- A coordinate that the smaller key doesn't use counts one factor, though it is two numbers.
abbrev grown_at_two : ℕ → ℕ → ℕ → ℕ → ℕ → Comparison
grown_at_two down u v u' v' = compared quadratic small (grown down 0) (u ∷ v ∷ []) (u' ∷ v' ∷ []) (replicate 12 9)

growth-two-parts :
    answers
    (grown_at_two 0 3 2 4 5 ∷ grown_at_two 1 3 2 4 5 ∷ grown_at_two 1 1073741824 0 4 5 ∷ grown_at_two 1 1073741824 1 4 5 ∷
    grown_at_two 1 3 2 1 0 ∷ grown_at_two 1 3 2 1 1 ∷ [])
    ≡ same ∷ different ∷ same ∷ different ∷ same ∷ different ∷ []
unfolding comparing two_by_two
growth-two-parts = refl

growth-counted : map (λ (c : Comparison). c.factors) (grown_at_two 0 3 2 4 5 ∷ grown_at_two 1 3 2 4 5 ∷ []) ≡ 4 ∷ 4 ∷ []
unfolding comparing two_by_two
growth-counted = refl
