-- Points one behind the other in one list of numbers: the counts of two tests, one of the first numbers and one of those behind them,
-- multiply. So the lists of s groups that all pass one test count as the groups that pass it, to the power s.
use Prim.Native.Nat.{ℕ, zero, suc, ◌+◌, ◌*◌, ◌^◌, ◌≤◌, ◌<◌}
use mathlib.Core.Bool.{Bool, true, false, cond, ◌&&◌}
use mathlib.Core.List.{List, [], ◌∷◌}
use mathlib.Core.Path.{◌≡◌, refl, sym, ap, ap₂, ◌∙◌}
use native.Mathlib.Nat.{zero-add, suc-add, zero-mul, one-mul, mul-zero, mul-suc, mul-le-mul_left, pow-zero, pow-suc}
use native.Mathlib.Omega.{arith}
use lib.Dec.{eqb}
use lib.ListN.{length, get_or, take, drop, length-drop}
use lib.Seq.{length-take-le, take_all, take-take}
use Rattle.algebra.specs.Arithmetic.{sum_below, whole}
use Rattle.algebra.specs.Groups.{group_at, all_below}
use Rattle.algebra.specs.Points.{count_points, Below}
use Rattle.algebra.proofs.CoordinatesBelow.{below-take, below-drop}
use Rattle.algebra.proofs.PointCounts.{count_same, count_none}
use Rattle.algebra.proofs.Sums.{sum_same}
use Rattle.algebra.proofs.WholeNumberSums.{total-mul}

-- ---- two tests

pub count-both : (q k m : ℕ) (s t : List ℕ → Bool) →
    count_points q (k + m) (λ xs. s (take k xs) && t (drop k xs)) ≡ count_points q k s * count_points q m t
unfolding count_points
count-both q zero m s t = ap (λ (n : ℕ). count_points q n (λ xs. s [] && t xs)) (zero-add m) ∙ go (s [])
  where
    go : (b : Bool) → count_points q m (λ xs. b && t xs) ≡ cond b 1 0 * count_points q m t
    go true = sym (one-mul (count_points q m t))
    go false = count_none q m ∙ sym (zero-mul (count_points q m t))
count-both q (suc k) m s t =
    ap (λ (n : ℕ). count_points q n (λ xs. s (take (suc k) xs) && t (drop (suc k) xs))) (suc-add k m)
    ∙ sum_same whole q _ _ (λ x l. count-both q k m (λ xs. s (x ∷ xs)) t)
    ∙ total-mul q (count_points q m t) (λ x. count_points q k (λ xs. s (x ∷ xs)))

-- ---- each of the numbers below n

pub all_same : (n : ℕ) (s t : ℕ → Bool) → ((i : ℕ) → i < n → s i ≡ t i) → all_below n s ≡ all_below n t
unfolding all_below
all_same zero s t h = refl
all_same (suc n) s t h = ap₂ ◌&&◌ (all_same n s t (λ i l. h i (omega arith))) (h n (omega arith))

pub all_true : (n : ℕ) (s : ℕ → Bool) → ((i : ℕ) → i < n → s i ≡ true) → all_below n s ≡ true
unfolding all_below
all_true zero s h = refl
all_true (suc n) s h = ap₂ ◌&&◌ (all_true n s (λ i l. h i (omega arith))) (h n (omega arith))

-- ---- groups

-- up to the end of group i there are k·(i + 1) numbers
group-ends : (k count i : ℕ) → i < count → k * i + k ≤ k * count
group-ends k count i l = omega (arith, mul-suc k i, mul-le-mul_left k l)

pub group-length : (k count : ℕ) (xs : List ℕ) → length xs ≡ k * count → (i : ℕ) → i < count → length (group_at k xs i) ≡ k
group-length k count xs e i l =
    length-take-le k (drop (k * i) xs) (omega (arith, length-drop (k * i) xs, group-ends k count i l))

pub group-below : (q k : ℕ) (xs : List ℕ) → Below q xs → (i : ℕ) → Below q (group_at k xs i)
group-below q k xs below i = below-take q k (drop (k * i) xs) (below-drop q (k * i) xs below)

-- numbers that lie within the first n are found there
within : (k j n : ℕ) (xs : List ℕ) → j + k ≤ n → take k (drop j xs) ≡ take k (drop j (take n xs))
within k zero n xs l = sym (take-take k n xs (omega arith))
within k (suc j) zero xs l = absurd (omega arith)
within k (suc j) (suc n) [] l = refl
within k (suc j) (suc n) (x ∷ xs) l = within k j n xs (omega arith)

pub count-each : (q k count : ℕ) (s : List ℕ → Bool) →
    count_points q (k * count) (λ xs. all_below count (λ i. s (group_at k xs i))) ≡ count_points q k s ^ count
unfolding count_points all_below
count-each q k zero s = ap (λ (n : ℕ). count_points q n (λ xs. true)) (mul-zero k) ∙ sym (pow-zero (count_points q k s))
count-each q k (suc count) s =
    ap (λ (n : ℕ). count_points q n (λ xs. all_below (suc count) (λ i. s (group_at k xs i)))) (mul-suc k count)
    ∙ count_same q (k * count + k) _ (λ xs. all_below count (λ i. s (group_at k (take (k * count) xs) i)) && s (drop (k * count) xs))
    (λ xs e b.
    ap₂ ◌&&◌
    (all_same count _ _ (λ i l. ap s (within k (k * i) (k * count) xs (group-ends k count i l))))
    (ap s (take_all k (drop (k * count) xs) (omega (arith, length-drop (k * count) xs)))))
    ∙ count-both q (k * count) k (λ xs. all_below count (λ i. s (group_at k xs i))) s
    ∙ ap (λ (c : ℕ). c * count_points q k s) (count-each q k count s)
    ∙ sym (pow-suc (count_points q k s) count)

-- ---- worked examples, by computation

second_group : group_at 2 (7 ∷ 8 ∷ 9 ∷ 6 ∷ []) 1 ≡ 9 ∷ 6 ∷ []
second_group = refl

-- is the first of two numbers zero, or the second?
abbrev some_zero : List ℕ → Bool
some_zero xs = eqb (get_or xs 0 0 * get_or xs 1 0) 0

-- it is so in 3² - 2² of the 9 groups of two numbers below 3, and in both groups of 5² of the 81 lists of four
in-a-group : count_points 3 2 some_zero ≡ 5
unfolding count_points sum_below
in-a-group = refl

in-both-groups : count_points 3 4 (λ xs. all_below 2 (λ i. some_zero (group_at 2 xs i))) ≡ 25
unfolding count_points sum_below all_below
in-both-groups = refl
