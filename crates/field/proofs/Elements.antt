-- The elements that numbers make, in any field in which keys are evaluated.
use Prim.Native.Nat.{ℕ, zero, suc, ◌*◌, ◌≤◌}
use mathlib.Core.List.{List, [], ◌∷◌, ◌++◌, map, flat_map}
use mathlib.Core.Path.{◌≡◌, sym, ap, ◌∙◌}
use native.Mathlib.Nat.{mul-zero, mul-suc, add_comm}
use native.Mathlib.Omega.{arith}
use lib.ListN.{length, get_or, take, drop, length-drop, take-append-drop}
use lib.Seq.{length-take-le, drop-drop, take-add}
use Rattle.algebra.specs.Digits.{digits}
use Rattle.algebra.specs.Points.{Below}
use Rattle.algebra.proofs.CoordinatesBelow.{below-take, below-drop}
use Rattle.field.specs.Fp.{p}
use Rattle.field.specs.Scalars.{Scalars, size_of, Lawful}

module _ (𝓢 : Scalars) (𝓛 : Lawful 𝓢) where
  abbrev Element : Type 0
  Element = 𝓢.arithmetic.Carrier

  abbrev w : ℕ
  w = 𝓢.width

  -- the elements whose numbers' digits these are
  pub elements-numbered : (is : List ℕ) → Below (size_of 𝓢) is → 𝓢.elements (flat_map (digits p w) is) ≡ map 𝓛.field.element is
  unfolding flat_map
  elements-numbered [] below = 𝓛.none_made
  elements-numbered (i ∷ is) below =
      ap (λ (xs : List ℕ). 𝓢.elements (xs ++ flat_map (digits p w) is)) (sym (𝓛.numbered i (rw 𝓛.size_is below.0)))
      ∙ 𝓛.made_again (𝓛.field.element i) (flat_map (digits p w) is)
      ∙ ap (λ (xs : List Element). 𝓛.field.element i ∷ xs) (elements-numbered is below.1)

  -- a list of numbers begins with those of an element
  pub record Begins (list : List ℕ) : Type 0 where
    pub first : Element
    pub laid_out : 𝓢.numbers first ≡ take w list
    pub made : 𝓢.elements list ≡ first ∷ 𝓢.elements (drop w list)

  pub begins : (list : List ℕ) → w ≤ length list → Begins list
  begins list l =
      let (x, e) = 𝓛.numbers_all (take w list) (length-take-le w list l) in
      record {
        first = x;
        laid_out = e;
        made =
            ap 𝓢.elements (sym (take-append-drop w list) ∙ ap (λ (xs : List ℕ). xs ++ drop w list) (sym e))
            ∙ 𝓛.made_again x (drop w list);
      }

  pub elements-count : (n : ℕ) (list : List ℕ) → length list ≡ w * n → length (𝓢.elements list) ≡ n
  elements-count zero [] e = ap length 𝓛.none_made
  elements-count zero (x ∷ list) e = absurd (omega (arith, mul-zero w))
  elements-count (suc n) list e =
      let b = begins list (omega (arith, mul-suc w n)) in
      ap length b.made ∙ ap suc (elements-count n (drop w list) (length-drop w list ∙ omega (arith, mul-suc w n)))

  -- the first n elements are made of the first w·n numbers, and the others of those behind
  pub elements-take : (n : ℕ) (list : List ℕ) → w * n ≤ length list → 𝓢.elements (take (w * n) list) ≡ take n (𝓢.elements list)
  elements-take zero list l = ap (λ (m : ℕ). 𝓢.elements (take m list)) (mul-zero w) ∙ 𝓛.none_made
  elements-take (suc n) list l =
      let b = begins list (omega (arith, mul-suc w n)) in
      ap (λ (m : ℕ). 𝓢.elements (take m list)) (mul-suc w n ∙ add_comm (w * n) w)
      ∙ ap 𝓢.elements (take-add w (w * n) list ∙ ap (λ (xs : List ℕ). xs ++ take (w * n) (drop w list)) (sym b.laid_out))
      ∙ 𝓛.made_again b.first (take (w * n) (drop w list))
      ∙ ap (λ (xs : List Element). b.first ∷ xs) (elements-take n (drop w list) (omega (arith, mul-suc w n, length-drop w list)))
      ∙ ap (take (suc n)) (sym b.made)

  pub elements-drop : (n : ℕ) (list : List ℕ) → w * n ≤ length list → 𝓢.elements (drop (w * n) list) ≡ drop n (𝓢.elements list)
  elements-drop zero list l = ap (λ (m : ℕ). 𝓢.elements (drop m list)) (mul-zero w)
  elements-drop (suc n) list l =
      let b = begins list (omega (arith, mul-suc w n)) in
      ap (λ (m : ℕ). 𝓢.elements (drop m list)) (mul-suc w n ∙ add_comm (w * n) w)
      ∙ ap 𝓢.elements (sym (drop-drop (w * n) w list))
      ∙ elements-drop n (drop w list) (omega (arith, mul-suc w n, length-drop w list))
      ∙ ap (drop (suc n)) (sym b.made)

  -- the element numbered i is made of the numbers from w·i on
  pub element-at : (list : List ℕ) (i : ℕ) → w * suc i ≤ length list →
      𝓢.numbers (get_or (𝓢.elements list) i 𝓢.arithmetic.nought) ≡ take w (drop (w * i) list)
  element-at list zero l =
      let b = begins list (omega (arith, mul-suc w 0)) in
      ap (λ (xs : List Element). 𝓢.numbers (get_or xs 0 𝓢.arithmetic.nought)) b.made
      ∙ b.laid_out
      ∙ ap (λ (n : ℕ). take w (drop n list)) (sym (mul-zero w))
  element-at list (suc i) l =
      let b = begins list (omega (arith, mul-suc w (suc i))) in
      ap (λ (xs : List Element). 𝓢.numbers (get_or xs (suc i) 𝓢.arithmetic.nought)) b.made
      ∙ element-at (drop w list) i (omega (arith, mul-suc w (suc i), length-drop w list))
      ∙ ap (take w) (drop-drop (w * i) w list ∙ ap (λ (n : ℕ). drop n list) (sym (mul-suc w i ∙ add_comm (w * i) w)))

  -- and is one of the field where all are below p
  pub element_valid : (list : List ℕ) (i : ℕ) → w * suc i ≤ length list → Below p list →
      𝓛.field.ring.Valid (get_or (𝓢.elements list) i 𝓢.arithmetic.nought)
  element_valid list i l below =
      𝓛.below_valid _ (rw (element-at list i l) (below-take p w (drop (w * i) list) (below-drop p (w * i) list below)))
