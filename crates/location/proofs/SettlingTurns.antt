-- A point whose coordinates are set to bits in place, one a turn.
use Prim.Native.Nat.{ℕ, zero, suc, ◌+◌, ◌≤◌, ◌<◌}
use mathlib.Core.Bool.{Bool}
use mathlib.Core.List.{List, [], ◌∷◌, ◌++◌, append-nil, append_assoc}
use mathlib.Core.Path.{◌≡◌, refl, sym, ap, ap₂, ◌∙◌}
use native.Mathlib.Omega.{arith}
use lib.ListN.{length, take, drop, set, length-set}
use lib.Seq.{take_all, drop-cons, drop-set-lt, take-suc-set, set_split, set-set}
use Rattle.location.specs.Locate.{bit_for, settled}

-- the first i are set, and the way from here leads on to where it leads from the start
pub record Settling (same_at : List ℕ → Bool) (start point : List ℕ) (i : ℕ) : Type 0 where
  pub as_many : length point ≡ length start
  pub inside : i ≤ length start
  pub leads : take i point ++ settled (λ later. same_at (take i point ++ later)) (drop i point) ≡ settled same_at start

pub settling-begun : (same_at : List ℕ → Bool) (start : List ℕ) → Settling same_at start start 0
settling-begun same_at start = record { as_many = refl; inside = omega arith; leads = refl }

module _ (same_at : List ℕ → Bool) (start point : List ℕ) (i : ℕ) (settling : Settling same_at start point i) where
  -- the coordinate is set to 0, and then to what the answer there says
  pub settling-turn : i < length start → (bit : ℕ) → bit ≡ bit_for (same_at (set point i 0)) →
      Settling same_at start (set (set point i 0) i bit) (i + 1)
  unfolding settled
  settling-turn l bit is =
      let here : i < length point = omega (arith, settling.as_many) in
      let next : i + 1 ≡ suc i = omega arith in
      let twice : set (set point i 0) i bit ≡ set point i bit = set-set point i 0 bit in
      let before = take i point in
      let later = drop (suc i) point in
      let zero_is : set point i 0 ≡ before ++ (0 ∷ later) = set_split point i 0 here in
      record {
        as_many = ap length twice ∙ length-set point i bit ∙ settling.as_many;
        inside = omega arith;
        leads =
            ap₂ (λ (j : ℕ) (xs : List ℕ). take j xs ++ settled (λ rest. same_at (take j xs ++ rest)) (drop j xs)) next twice
            ∙ ap₂ (λ (xs ys : List ℕ). xs ++ settled (λ rest. same_at (xs ++ rest)) ys) (take-suc-set point i bit here)
            (drop-set-lt (suc i) point i bit (omega arith))
            ∙ append_assoc before (bit ∷ []) (settled (λ rest. same_at ((before ++ (bit ∷ [])) ++ rest)) later)
            ∙ ap (λ (s : List ℕ → Bool). before ++ (bit ∷ settled s later)) (λ t rest. same_at (append_assoc before (bit ∷ []) rest t))
            ∙ ap (λ (b : ℕ). before ++ (b ∷ settled (λ rest. same_at (before ++ (b ∷ rest))) later))
            (is ∙ ap (λ (xs : List ℕ). bit_for (same_at xs)) zero_is)
            ∙ ap (λ (xs : List ℕ). before ++ settled (λ rest. same_at (before ++ rest)) xs) (sym (drop-cons point i 0 here))
            ∙ settling.leads;
      }

  pub settling-done : length start ≤ i → point ≡ settled same_at start
  unfolding settled
  settling-done l =
      let all = take_all i point (omega (arith, settling.as_many)) in
      let none : drop i point ≡ [] = drop_past i point (omega (arith, settling.as_many)) in
      sym all ∙ sym (append-nil (take i point))
      ∙ ap (λ (xs : List ℕ). take i point ++ settled (λ rest. same_at (take i point ++ rest)) xs) (sym none)
      ∙ settling.leads
    where
      drop_past : (k : ℕ) (xs : List ℕ) → length xs ≤ k → drop k xs ≡ []
      drop_past zero [] few = refl
      drop_past zero (x ∷ xs) few = absurd (omega arith)
      drop_past (suc k) [] few = refl
      drop_past (suc k) (x ∷ xs) few = drop_past k xs (omega arith)
