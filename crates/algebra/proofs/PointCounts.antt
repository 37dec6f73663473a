-- Why `count_points` counts points: a test that none passes counts 0, one that one passes 1, and the counts of two tests add up.
-- So a test counts the points that pass it, each once. What it says of other lists does not matter. All the points are q^m, and a
-- test and its negation share them.
use Prim.Native.Nat.{ℕ, zero, suc, ◌+◌, ◌^◌}
use mathlib.Core.Bool.{Bool, true, false, cond, not, ◌&&◌, ◌||◌, and-not_self, or-not_self, not-eq-not}
use mathlib.Core.List.{List, [], ◌∷◌}
use mathlib.Core.Path.{◌≡◌, refl, sym, ap, ap₂, ◌∙◌}
use native.Mathlib.Nat.{add-zero, pow-zero, pow-succ', mul-zero}
use native.Mathlib.Omega.{arith}
use lib.ListN.{length}
use Rattle.algebra.specs.Arithmetic.{whole}
use Rattle.algebra.specs.Points.{count_points, Below}
use Rattle.algebra.proofs.Sums.{sum_same}
use Rattle.algebra.proofs.WholeNumberSums.{total-add, total-const, total-one}

-- only the lists of m coordinates below q count
pub count_same : (q m : ℕ) (s t : List ℕ → Bool)
    → ((xs : List ℕ) → length xs ≡ m → Below q xs → s xs ≡ t xs) → count_points q m s ≡ count_points q m t
unfolding count_points
count_same q zero s t h = rw (h [] refl tt)
count_same q (suc m) s t h =
    sum_same whole q _ _ (λ x l. count_same q m (λ xs. s (x ∷ xs)) (λ xs. t (x ∷ xs)) (λ xs e b. h (x ∷ xs) (ap suc e) (l, b)))

pub count_none : (q m : ℕ) → count_points q m (λ xs. false) ≡ 0
unfolding count_points
count_none q zero = refl
count_none q (suc m) = sum_same whole q _ _ (λ x l. count_none q m) ∙ total-const q 0 ∙ mul-zero q

-- each point counts once: a test that it alone passes counts 1
pub count-one : (q m : ℕ) (point : List ℕ) → length point ≡ m → Below q point → (s : List ℕ → Bool) → s point ≡ true →
    ((xs : List ℕ) → length xs ≡ m → Below q xs → s xs ≡ true → xs ≡ point) → count_points q m s ≡ 1
unfolding count_points
count-one q zero [] e b s t u = ap (λ (c : Bool). cond c 1 0) t
count-one q zero (z ∷ zs) e b s t u = absurd (omega arith)
count-one q (suc m) [] e b s t u = absurd (omega arith)
count-one q (suc m) (z ∷ zs) e b s t u =
    total-one q z 1 _ b.0
    (count-one q m zs (omega arith) b.1 (λ xs. s (z ∷ xs)) t (λ xs e' b' t'. tails (u (z ∷ xs) (ap suc e') (b.0, b') t')))
    (λ x l d. count_same q m (λ xs. s (x ∷ xs)) (λ xs. false)
    (λ xs e' b'. (not-eq-not {b = false}).0 (λ t'. d (heads (u (x ∷ xs) (ap suc e') (l, b') t')))) ∙ count_none q m)
  where
    tails : {x : ℕ} {xs : List ℕ} → x ∷ xs ≡ z ∷ zs → xs ≡ zs
    tails p = cc

    heads : {x : ℕ} {xs : List ℕ} → x ∷ xs ≡ z ∷ zs → x ≡ z
    heads p = cc

-- what passes one of two tests, and what passes both, count together as the two tests do
pub count_add : (q m : ℕ) (s t : List ℕ → Bool) →
    count_points q m (λ xs. s xs || t xs) + count_points q m (λ xs. s xs && t xs) ≡ count_points q m s + count_points q m t
unfolding count_points
count_add q zero s t = go (s []) (t [])
  where
    go : (a b : Bool) → cond (a || b) 1 0 + cond (a && b) 1 0 ≡ cond a 1 0 + cond b 1 0
    go true true = refl
    go true false = refl
    go false true = refl
    go false false = refl
count_add q (suc m) s t =
    sym (total-add q _ _)
    ∙ sum_same whole q _ _ (λ x l. count_add q m (λ xs. s (x ∷ xs)) (λ xs. t (x ∷ xs)))
    ∙ total-add q _ _

pub count-all : (q m : ℕ) → count_points q m (λ xs. true) ≡ q ^ m
unfolding count_points
count-all q zero = sym (pow-zero q)
count-all q (suc m) = sum_same whole q _ _ (λ x l. count-all q m) ∙ total-const q (q ^ m) ∙ sym (pow-succ' q m)

-- a test and its negation together count every point
pub count-split : (q m : ℕ) (s : List ℕ → Bool) → count_points q m s + count_points q m (λ xs. not (s xs)) ≡ q ^ m
count-split q m s =
    sym (count_add q m s (λ xs. not (s xs)))
    ∙ ap₂ ◌+◌
    (count_same q m _ (λ xs. true) (λ xs e b. or-not_self (s xs)) ∙ count-all q m)
    (count_same q m _ (λ xs. false) (λ xs e b. and-not_self (s xs)) ∙ count_none q m)
    ∙ add-zero (q ^ m)
