-- A side's coordinates as they are filled with bits, one a turn.
use Prim.Native.Nat.{ℕ, zero, suc, ◌+◌, ◌-◌, ◌/◌, ◌%◌, ◌≤◌, ◌<◌}
use mathlib.Core.Bool.{cond}
use mathlib.Core.List.{List, [], ◌∷◌, ◌++◌, append-nil, append_assoc}
use mathlib.Core.Path.{◌≡◌, refl, sym, ap, ◌∙◌}
use native.Mathlib.Omega.{arith}
use lib.Dec.{eqb}
use lib.ListN.{length, take, set, length-set}
use lib.Seq.{take_all, take-suc-set}
use Rattle.field.specs.Fp.{fp}
use Rattle.multilinear.specs.Weight.{bits}

-- the first i are filled, and the bits of the rest belong behind them
abbrev pub Filling : ℕ → ℕ → List ℕ → ℕ → ℕ → Type 0
Filling a count coordinates rest i =
    (take i coordinates ++ bits fp (count - i) rest ≡ bits fp count a) × (length coordinates ≡ count) × (i ≤ count)

pub filling-begun : (a count : ℕ) (coordinates : List ℕ) → length coordinates ≡ count → Filling a count coordinates a 0
filling-begun a count coordinates e = (ap (λ (n : ℕ). bits fp n a) (let z : count - 0 ≡ count = omega arith in z), e, omega arith)

-- a bit is an element of the field
lowest : (bit : ℕ) → bit < 2 → bit ≡ cond (eqb bit 1) fp.unit fp.nought
lowest zero l = refl
lowest (suc zero) l = refl
lowest (suc (suc bit)) l = absurd (omega arith)

module _ (a count : ℕ) (coordinates : List ℕ) (rest i : ℕ) where
  pub filling-turn : i < count → Filling a count coordinates rest i → Filling a count (set coordinates i (rest % 2)) (rest / 2) (i + 1)
  unfolding bits
  filling-turn l f =
      let bit : ℕ = rest % 2 in
      let is : bit ≡ cond (eqb (rest % 2) 1) fp.unit fp.nought = lowest (rest % 2) (omega arith) in
      let left : count - i ≡ suc (count - (i + 1)) = omega arith in
      let one : i + 1 ≡ suc i = omega arith in (
        ap (λ (j : ℕ). take j (set coordinates i bit) ++ bits fp (count - (i + 1)) (rest / 2)) one
            ∙ ap (λ (t : List ℕ). t ++ bits fp (count - (i + 1)) (rest / 2)) (take-suc-set coordinates i bit (omega (arith, f.1)))
            ∙ append_assoc (take i coordinates) (bit ∷ []) (bits fp (count - (i + 1)) (rest / 2))
            ∙ ap (λ (b : ℕ). take i coordinates ++ (b ∷ bits fp (count - (i + 1)) (rest / 2))) is
            ∙ ap (λ (n : ℕ). take i coordinates ++ bits fp n rest) (sym left)
            ∙ f.0,
        length-set coordinates i bit ∙ f.1,
        omega arith,
      )

  pub filling-done : count ≤ i → Filling a count coordinates rest i → coordinates ≡ bits fp count a
  unfolding bits
  filling-done l f =
      let none : count - i ≡ 0 = omega arith in
      sym (take_all i coordinates (omega (arith, f.1)))
      ∙ sym (append-nil (take i coordinates))
      ∙ ap (λ (n : ℕ). take i coordinates ++ bits fp n rest) (sym none)
      ∙ f.0
