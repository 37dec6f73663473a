-- The numbers of two keys, case by case: where they are found the same they are equal, and equal ones are found the same.
use Prim.Native.Nat.{ℕ}
use mathlib.Core.Bool.{Bool, true, false, cond, and-eq-true_iff, false≢true}
use mathlib.Core.List.{List, [], ◌∷◌}
use mathlib.Core.Logic.{◌⊎◌, inl, inr}
use mathlib.Core.Path.{◌≡◌, refl, sym, ap, ap₂, ◌∙◌}
use native.Mathlib.Decide.{ℕ_discrete}
use borrow.Author.Tests.{eq-eqb, eqb-true}
use lib.Dec.{eqb}
use Rattle.field.specs.Scalars.{Scalars, Lawful, prime}
use Rattle.field.proofs.PrimeLawful.{prime-lawful}
use Rattle.arrays.specs.Arrays.{Part, A, B, C, value_of}
use Rattle.evaluation.specs.Evaluate.{ValuesOf}
use Rattle.evaluation.specs.Sheet.{words_of}
use Rattle.evaluation.proofs.WordsOfArray.{words-once}
use Rattle.comparison.specs.Compare.{Answer, same, different, same_numbers, likeness}
use Rattle.comparison.proofs.Answers.{same-not-different}

-- ---- lists of numbers

pub numbers-equal : (xs ys : List ℕ) → same_numbers xs ys ≡ true → xs ≡ ys
unfolding same_numbers
numbers-equal [] [] e = refl
numbers-equal [] (y ∷ ys) e = absurd (false≢true e)
numbers-equal (x ∷ xs) [] e = absurd (false≢true e)
numbers-equal (x ∷ xs) (y ∷ ys) e =
    let (here, there) = (and-eq-true_iff (eqb x y) (same_numbers xs ys)).0 e in
    ap₂ (λ (z : ℕ) (zs : List ℕ). z ∷ zs) (eqb-true x y here) (numbers-equal xs ys there)

numbers-alike : (xs : List ℕ) → same_numbers xs xs ≡ true
unfolding same_numbers
numbers-alike [] = refl
numbers-alike (x ∷ xs) = rw (eq-eqb x x refl) (numbers-alike xs)

-- ---- the values of two keys

found-same : (b : Bool) → cond b same different ≡ same → b ≡ true
found-same true e = refl
found-same false e = absurd (same-not-different (sym e))

module _ (𝓢 : Scalars) (𝓛 : Lawful 𝓢) (one other : ValuesOf 𝓢) where
  pub all-equal : one.a ≡ other.a → one.b ≡ other.b → one.c ≡ other.c → likeness 𝓢 one other ≡ same
  unfolding likeness
  all-equal a b c =
      let words : words_of 𝓢 one ≡ words_of 𝓢 other = λ t. words_of 𝓢 (record { a = a t; b = b t; c = c t }) in
      ap (λ (xs : List ℕ). cond (same_numbers xs (words_of 𝓢 other)) same different) words
      ∙ ap (λ (b : Bool). cond b same different) (numbers-alike (words_of 𝓢 other))

  pub likeness-either : (answer : Answer) → answer ≡ likeness 𝓢 one other → (answer ≡ same) ⊎ (answer ≡ different)
  unfolding likeness
  likeness-either answer = go (same_numbers (words_of 𝓢 one) (words_of 𝓢 other))
    where
      go : (b : Bool) → answer ≡ cond b same different → (answer ≡ same) ⊎ (answer ≡ different)
      go true e = inl e
      go false e = inr e

  -- numbers that are found the same are equal, and equal ones are found the same
  pub same-equal : likeness 𝓢 one other ≡ same → (part : Part) → value_of part one ≡ value_of part other
  unfolding likeness
  same-equal e part = ap (value_of part) (words-once 𝓢 𝓛 one other (numbers-equal _ _ (found-same _ e)))

  pub equal-same : ((part : Part) → value_of part one ≡ value_of part other) → likeness 𝓢 one other ≡ same
  equal-same equal = all-equal (equal A) (equal B) (equal C)

  -- one that differs is enough
  pub part-differs : (part : Part) → (value_of part one ≡ value_of part other → ⊥) → likeness 𝓢 one other ≡ different
  part-differs part d = go (likeness-either (likeness 𝓢 one other) refl)
    where
      go : (likeness 𝓢 one other ≡ same) ⊎ (likeness 𝓢 one other ≡ different) → likeness 𝓢 one other ≡ different
      go (inl e) = absurd (d (same-equal e part))
      go (inr e) = e

-- values over p that are not found the same differ in A, in B or in C
pub some-part : (one other : ValuesOf prime) → (likeness prime one other ≡ same → ⊥) →
    (part : Part) × (value_of part one ≡ value_of part other → ⊥)
some-part one other differ = go (ℕ_discrete one.a other.a) (ℕ_discrete one.b other.b) (ℕ_discrete one.c other.c)
  where
    go : Dec (one.a ≡ other.a) → Dec (one.b ≡ other.b) → Dec (one.c ≡ other.c) →
        (part : Part) × (value_of part one ≡ value_of part other → ⊥)
    go (no a) _ _ = (A, a)
    go (yes a) (no b) _ = (B, b)
    go (yes a) (yes b) (no c) = (C, c)
    go (yes a) (yes b) (yes c) = absurd (differ (all-equal prime prime-lawful one other a b c))
