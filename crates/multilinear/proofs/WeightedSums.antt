-- Weighted sums of matrices, whatever the weights: of a sum, of a scaled matrix, of one value at one place, and of a moved
-- matrix (004, Lemma 1).
use Prim.Native.Nat.{ℕ, ◌+◌, ◌≤◌, ◌<◌}
use mathlib.Core.Bool.{Bool, cond, ◌&&◌}
use mathlib.Core.Path.{◌≡◌, refl, sym, ap, ap₂, ◌∙◌}
use borrow.Author.Tests.{eq-eqb}
use lib.Dec.{eqb}
use Rattle.algebra.specs.Arithmetic.{Arithmetic, sum_below}
use Rattle.algebra.specs.Field.{Ring}
use Rattle.algebra.proofs.Rings.{nought-mul, add-mul}
use Rattle.algebra.proofs.Sums.{sum_same, sum-valid, sum-nought, sum-add, sum-mul}
use Rattle.multilinear.specs.Extension.{weighted}
use Rattle.multilinear.specs.Matrix.{Matrix, noughts, scaled, moved}
use Rattle.multilinear.proofs.MatrixZeros.{place-row-other, place-column-other, moved_inside, moved-row-outside, moved-column-outside}
use Rattle.multilinear.proofs.WindowSums.{sums-one, sum-scaled}

module _ (𝓐 : Arithmetic) (𝓡 : Ring 𝓐) where
  open 𝓐 use {Carrier, nought, add, mul}
  open 𝓡 use {Valid, valid_mul, mul_comm, mul_assoc}

  regroup : (v p q r s : Carrier) → mul (mul v (mul p q)) (mul r s) ≡ mul (mul (mul (mul v p) r) q) s
  regroup v p q r s = simp (mul_assoc, mul_comm)

  factor-last : (a v p q : Carrier) → mul (mul (mul a v) p) q ≡ mul (mul (mul v p) q) a
  factor-last a v p q =
      ap (λ (x : Carrier). mul x q) (mul_assoc a v p) ∙ mul_assoc a (mul v p) q ∙ mul_comm a (mul (mul v p) q)

  module _ (N N' : ℕ) (w w' : ℕ → Carrier) where
    abbrev term : Matrix 𝓐 → ℕ → ℕ → Carrier
    term m x y = mul (mul (m x y) (w x)) (w' y)

    -- where a matrix is zero, so is its term
    off : (m : Matrix 𝓐) (x y : ℕ) → m x y ≡ nought → term m x y ≡ nought
    off m x y e =
        ap (λ (v : Carrier). mul (mul v (w x)) (w' y)) e
        ∙ ap (λ (v : Carrier). mul v (w' y)) (nought-mul 𝓐 𝓡 (w x)) ∙ nought-mul 𝓐 𝓡 (w' y)

    pub weighted-valid : (m : Matrix 𝓐) → Valid (weighted 𝓐 m N N' w w')
    unfolding weighted
    weighted-valid m = sum-valid 𝓐 𝓡 N (λ x. sum_below 𝓐 N' (term m x))

    pub weighted-same : (m m' : Matrix 𝓐) → ((x y : ℕ) → x < N → y < N' → m x y ≡ m' x y) →
        weighted 𝓐 m N N' w w' ≡ weighted 𝓐 m' N N' w w'
    unfolding weighted
    weighted-same m m' same =
        sum_same 𝓐 N _ _ (λ x l. sum_same 𝓐 N' _ _ (λ y l'. ap (λ (v : Carrier). mul (mul v (w x)) (w' y)) (same x y l l')))

    pub weighted-nought : weighted 𝓐 (noughts 𝓐) N N' w w' ≡ nought
    unfolding weighted
    weighted-nought =
        sum-nought 𝓐 𝓡 N (λ x. sum_below 𝓐 N' (term (noughts 𝓐) x))
        (λ x _. sum-nought 𝓐 𝓡 N' (term (noughts 𝓐) x) (λ y _. off (noughts 𝓐) x y refl))

    pub weighted-add : (m m' : Matrix 𝓐) →
        weighted 𝓐 (λ x y. add (m x y) (m' x y)) N N' w w' ≡ add (weighted 𝓐 m N N' w w') (weighted 𝓐 m' N N' w w')
    unfolding weighted
    weighted-add m m' =
        sum_same 𝓐 N _ (λ x. add (sum_below 𝓐 N' (term m x)) (sum_below 𝓐 N' (term m' x)))
        (λ x _. sum_same 𝓐 N' _ (λ y. add (term m x y) (term m' x y))
        (λ y _. ap (λ (v : Carrier). mul v (w' y)) (add-mul 𝓐 𝓡 (m x y) (m' x y) (w x))
        ∙ add-mul 𝓐 𝓡 (mul (m x y) (w x)) (mul (m' x y) (w x)) (w' y))
        ∙ sum-add 𝓐 𝓡 N' (term m x) (term m' x))
        ∙ sum-add 𝓐 𝓡 N (λ x. sum_below 𝓐 N' (term m x)) (λ x. sum_below 𝓐 N' (term m' x))

    pub weighted-scaled : (a : Carrier) (m : Matrix 𝓐) → weighted 𝓐 (scaled 𝓐 a m) N N' w w' ≡ mul a (weighted 𝓐 m N N' w w')
    unfolding weighted
    weighted-scaled a m =
        sum_same 𝓐 N _ (λ x. mul (sum_below 𝓐 N' (term m x)) a)
        (λ x _. sum_same 𝓐 N' _ (λ y. mul (term m x y) a) (λ y _. factor-last a (m x y) (w x) (w' y))
        ∙ sum-mul 𝓐 𝓡 N' (term m x) a)
        ∙ sum-mul 𝓐 𝓡 N (λ x. sum_below 𝓐 N' (term m x)) a
        ∙ mul_comm (sum_below 𝓐 N (λ x. sum_below 𝓐 N' (term m x))) a

    -- one value at one place
    pub weighted-place : (r c : ℕ) (v : Carrier) → r < N → c < N' →
        weighted 𝓐 (λ x y. cond (eqb r x && eqb c y) v nought) N N' w w' ≡ mul (mul v (w r)) (w' c)
    unfolding weighted
    weighted-place r c v l l' =
        sums-one 𝓐 𝓡 N N' r c (term place) l l'
        (λ x y _ other. off place x y (place-row-other 𝓐 r c v x y (λ e. other (sym e))))
        (λ y _ other. off place r y (place-column-other 𝓐 r c v r y (λ e. other (sym e))))
        (valid_mul (mul (place r c) (w r)) (w' c))
        ∙ ap₂ (λ (b : Bool) (b' : Bool). mul (mul (cond (b && b') v nought) (w r)) (w' c)) (eq-eqb r r refl) (eq-eqb c c refl)
      where
        place : Matrix 𝓐
        place x y = cond (eqb r x && eqb c y) v nought

    -- A moved matrix: where its row s + z weighs u(z)·g and its column s' + z weighs u'(z)·g', it weighs as the matrix itself
    -- by u and u', times g and g'.
    pub weighted-moved : (m : Matrix 𝓐) (n n' s s' : ℕ) (u u' : ℕ → Carrier) (g g' : Carrier) → s + n ≤ N → s' + n' ≤ N' →
        ((z : ℕ) → z < n → w (s + z) ≡ mul (u z) g) → ((z : ℕ) → z < n' → w' (s' + z) ≡ mul (u' z) g') →
        weighted 𝓐 (moved 𝓐 m n n' s s') N N' w w' ≡ mul (mul (weighted 𝓐 m n n' u u') g) g'
    unfolding weighted
    weighted-moved m n n' s s' u u' g g' fits fits' same same' =
        sum-scaled 𝓐 𝓡 N s n (λ x. sum_below 𝓐 N' (term image x)) (λ z. sum_below 𝓐 n' (own z)) g g' fits
        (λ x out. sum-nought 𝓐 𝓡 N' (term image x) (λ y _. off image x y (moved-row-outside 𝓐 m n n' s s' x y out)))
        (λ z l. sum-scaled 𝓐 𝓡 N' s' n' (term image (s + z)) (own z) g g' fits'
        (λ y out. off image (s + z) y (moved-column-outside 𝓐 m n n' s s' (s + z) y out)) (λ z' l'. inside z z' l l'))
      where
        image : Matrix 𝓐
        image = moved 𝓐 m n n' s s'

        own : ℕ → ℕ → Carrier
        own z z' = mul (mul (m z z') (u z)) (u' z')

        inside : (z z' : ℕ) → z < n → z' < n' → term image (s + z) (s' + z') ≡ mul (mul (own z z') g) g'
        inside z z' l l' =
            ap (λ (v : Carrier). mul (mul v (w (s + z))) (w' (s' + z'))) (moved_inside 𝓐 m n n' s s' z z' l l')
            ∙ ap₂ (λ (a : Carrier) (a' : Carrier). mul (mul (m z z') a) a') (same z l) (same' z' l')
            ∙ regroup (m z z') (u z) g (u' z') g'
