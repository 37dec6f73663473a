-- The numbers that an array takes on a sheet, and the elements that they make.
use Prim.Native.Nat.{ℕ, zero, suc}
use mathlib.Core.List.{List, [], ◌∷◌, ◌++◌, append_assoc}
use mathlib.Core.Path.{◌≡◌, sym, ap, ◌∙◌}
use native.Mathlib.Omega.{arith}
use lib.ListN.{length, length-append}
use Rattle.field.specs.Scalars.{Scalars, Lawful}
use Rattle.arrays.specs.Arrays.{Triple}
use Rattle.evaluation.specs.Evaluate.{ValuesOf}
use Rattle.evaluation.specs.Sheet.{words_of, places_of, words_below}

-- A, B and C in turn
abbrev pub listed : {X : Type 0} → Triple X → List X
listed values = values.a ∷ values.b ∷ values.c ∷ []

module _ (𝓢 : Scalars) (𝓛 : Lawful 𝓢) where
  abbrev Element : Type 0
  Element = 𝓢.arithmetic.Carrier

  pub words-places : (values : ValuesOf 𝓢) → length (words_of 𝓢 values) ≡ places_of 𝓢
  words-places values =
      omega (
        arith,
        length-append (𝓢.numbers values.a) (𝓢.numbers values.b ++ 𝓢.numbers values.c),
        length-append (𝓢.numbers values.b) (𝓢.numbers values.c),
        𝓛.numbers_width values.a,
        𝓛.numbers_width values.b,
        𝓛.numbers_width values.c,
      )

  -- the numbers of three values make them again
  words-made : (values : ValuesOf 𝓢) (rest : List ℕ) →
      𝓢.elements (words_of 𝓢 values ++ rest) ≡ values.a ∷ values.b ∷ values.c ∷ 𝓢.elements rest
  words-made values rest =
      ap 𝓢.elements
      (append_assoc (𝓢.numbers values.a) (𝓢.numbers values.b ++ 𝓢.numbers values.c) rest
      ∙ ap (λ (xs : List ℕ). 𝓢.numbers values.a ++ xs) (append_assoc (𝓢.numbers values.b) (𝓢.numbers values.c) rest))
      ∙ 𝓛.made_again values.a (𝓢.numbers values.b ++ (𝓢.numbers values.c ++ rest))
      ∙ ap (λ (xs : List Element). values.a ∷ xs)
      (𝓛.made_again values.b (𝓢.numbers values.c ++ rest)
      ∙ ap (λ (xs : List Element). values.b ∷ xs) (𝓛.made_again values.c rest))

  -- so do those of one array behind the other
  pub below-made : (values : ℕ → ValuesOf 𝓢) (count : ℕ) (rest : List ℕ) →
      𝓢.elements (words_below (λ i. words_of 𝓢 (values i)) count ++ rest)
      ≡ words_below (λ i. listed (values i)) count ++ 𝓢.elements rest
  unfolding words_below
  below-made values zero rest = λ t. 𝓢.elements rest
  below-made values (suc count) rest =
      ap 𝓢.elements (append_assoc (words_below (λ i. words_of 𝓢 (values i)) count) (words_of 𝓢 (values count)) rest)
      ∙ below-made values count (words_of 𝓢 (values count) ++ rest)
      ∙ ap (λ (xs : List Element). words_below (λ i. listed (values i)) count ++ xs) (words-made (values count) rest)
      ∙ sym (append_assoc (words_below (λ i. listed (values i)) count) (listed (values count)) (𝓢.elements rest))

  three : {a b c a' b' c' : Element} {xs ys : List Element} → a ∷ b ∷ c ∷ xs ≡ a' ∷ b' ∷ c' ∷ ys → (a ≡ a') × (b ≡ b') × (c ≡ c')
  three e = (cc, cc, cc)

  -- values that take the same numbers are equal
  pub words-once : (one other : ValuesOf 𝓢) → words_of 𝓢 one ≡ words_of 𝓢 other → one ≡ other
  words-once one other e =
      let (a, b, c) =
      three (sym (words-made one []) ∙ ap (λ (xs : List ℕ). 𝓢.elements (xs ++ [])) e ∙ words-made other []) in
      λ t. record { a = a t; b = b t; c = c t }
