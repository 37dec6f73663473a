-- Numbers below q in groups of k are the digits of numbers below q^k.
-- So the lists of k·m numbers below q count as the lists of m numbers below q^k do.
use Prim.Native.Nat.{ℕ, zero, suc, ◌+◌, ◌*◌, ◌/◌, ◌^◌, ◌<◌}
use mathlib.Core.Bool.{Bool}
use mathlib.Core.List.{List, [], ◌∷◌, ◌++◌, flat_map}
use mathlib.Core.Path.{◌≡◌, refl, sym, ap, ap₂, ◌∙◌}
use native.Mathlib.Nat.{zero-add, suc-add, add-suc, add-zero, add_comm, mul-zero, mul-suc, pow-zero, pow-succ', mod-eq_of_lt, div-eq_of_lt, add-mul-div_left, add-mul-mod_self_left, mul-le-mul_left, mod-lt}
use native.Mathlib.Omega.{arith}
use lib.ListN.{length, take, drop, length-append, length-drop, take-append-drop}
use lib.Seq.{length-take-le, take-nil, drop-nil, take-append-add, drop-append-add}
use Rattle.algebra.specs.Arithmetic.{sum_below, whole}
use Rattle.algebra.specs.Digits.{digits}
use Rattle.algebra.specs.Points.{count_points, Below}
use Rattle.algebra.proofs.CoordinatesBelow.{below-append, below-take, below-drop}
use Rattle.algebra.proofs.Sums.{sum_same}
use Rattle.algebra.proofs.WholeNumberSums.{total-add, total-const}

-- ---- digits

pub digits-length : (q k i : ℕ) → length (digits q k i) ≡ k
unfolding digits
digits-length q zero i = refl
digits-length q (suc k) i = ap suc (digits-length q k (i / q))

-- the lowest digit, and the others
digits_more : (q k x j : ℕ) → x < q → digits q (suc k) (x + q * j) ≡ x ∷ digits q k j
unfolding digits
digits_more q k x j l =
    ap₂ (λ (d i : ℕ). d ∷ digits q k i)
    (add-mul-mod_self_left x q j ∙ mod-eq_of_lt l)
    (add-mul-div_left x j (omega arith) ∙ ap (λ (d : ℕ). d + j) (div-eq_of_lt l) ∙ zero-add j)

-- every list of k numbers below q is the digits of a number below q^k
pub digits_onto : (q k : ℕ) (list : List ℕ) → length list ≡ k → Below q list → (i : ℕ) × (i < q ^ k) × (digits q k i ≡ list)
unfolding digits
digits_onto q zero [] e below = (0, omega (arith, pow-zero q), refl)
digits_onto q zero (x ∷ list) e below = absurd (omega arith)
digits_onto q (suc k) [] e below = absurd (omega arith)
digits_onto q (suc k) (x ∷ list) e below =
    let (j, less, is) = digits_onto q k list (omega arith) below.1 in (
      x + q * j,
      omega (arith, below.0, mul-le-mul_left q less, mul-suc q j, pow-succ' q k),
      digits_more q k x j below.0 ∙ ap (λ (xs : List ℕ). x ∷ xs) is,
    )

-- ---- sums of whole numbers over groups

total-append : (a b : ℕ) (f : ℕ → ℕ) → sum_below whole (a + b) f ≡ sum_below whole a f + sum_below whole b (λ z. f (a + z))
unfolding sum_below
total-append a zero f = ap (λ (n : ℕ). sum_below whole n f) (add-zero a) ∙ omega arith
total-append a (suc b) f = ap (λ (n : ℕ). sum_below whole n f) (add-suc a b) ∙ omega (arith, total-append a b f)

total-grouped : (q N : ℕ) (f : ℕ → ℕ) → sum_below whole (q * N) f ≡ sum_below whole q (λ x. sum_below whole N (λ j. f (x + q * j)))
unfolding sum_below
total-grouped q zero f = ap (λ (n : ℕ). sum_below whole n f) (mul-zero q) ∙ sym (total-const q 0 ∙ mul-zero q)
total-grouped q (suc N) f =
    ap (λ (n : ℕ). sum_below whole n f) (mul-suc q N)
    ∙ total-append (q * N) q f
    ∙ ap₂ ◌+◌ (total-grouped q N f) (sum_same whole q _ _ (λ x l. ap f (add_comm (q * N) x)))
    ∙ sym (total-add q (λ x. sum_below whole N (λ j. f (x + q * j))) (λ x. f (x + q * N)))

-- ---- points

-- the first k numbers of a point, as digits
count-first : (q k m : ℕ) (test : List ℕ → Bool) →
    count_points q (k + m) test ≡ sum_below whole (q ^ k) (λ i. count_points q m (λ rest. test (digits q k i ++ rest)))
unfolding count_points digits sum_below
count-first q zero m test =
    ap (λ (n : ℕ). count_points q n test) (zero-add m)
    ∙ sym (ap (λ (n : ℕ). sum_below whole n (λ i. count_points q m test)) (pow-zero q) ∙ zero-add (count_points q m test))
count-first q (suc k) m test =
    ap (λ (n : ℕ). count_points q n test) (suc-add k m)
    ∙ sum_same whole q _ _ (λ x l. count-first q k m (λ xs. test (x ∷ xs))
    ∙ sum_same whole (q ^ k) _ _ (λ j l'.
    ap (λ (ds : List ℕ). count_points q m (λ rest. test (ds ++ rest))) (sym (digits_more q k x j l))))
    ∙ sym (total-grouped q (q ^ k) (λ i. count_points q m (λ rest. test (digits q (suc k) i ++ rest))))
    ∙ ap (λ (n : ℕ). sum_below whole n (λ i. count_points q m (λ rest. test (digits q (suc k) i ++ rest)))) (sym (pow-succ' q k))

-- the groups of a point, each as the digits of a number below q^k
pub count-grouped : (q k m : ℕ) (test : List ℕ → Bool) →
    count_points q (k * m) test ≡ count_points (q ^ k) m (λ is. test (flat_map (digits q k) is))
unfolding count_points flat_map
count-grouped q k zero test = ap (λ (n : ℕ). count_points q n test) (mul-zero k)
count-grouped q k (suc m) test =
    ap (λ (n : ℕ). count_points q n test) (mul-suc k m ∙ add_comm (k * m) k)
    ∙ count-first q k (k * m) test
    ∙ sum_same whole (q ^ k) _ _ (λ i l. count-grouped q k m (λ rest. test (digits q k i ++ rest)))

-- every list of k·m numbers below q is such a point
pub record Grouped (q k m : ℕ) (list : List ℕ) : Type 0 where
  pub groups : List ℕ
  pub count : length groups ≡ m
  pub below : Below (q ^ k) groups
  pub joined : flat_map (digits q k) groups ≡ list

pub grouped : (q k m : ℕ) (list : List ℕ) → length list ≡ k * m → Below q list → Grouped q k m list
unfolding flat_map
grouped q k zero [] e below = record { groups = []; count = refl; below = tt; joined = refl }
grouped q k zero (x ∷ list) e below = absurd (omega (arith, mul-zero k))
grouped q k (suc m) list e below =
    let (i, less, is) = digits_onto q k (take k list) (length-take-le k list (omega (arith, mul-suc k m))) (below-take q k list below) in
    let rest = grouped q k m (drop k list) (length-drop k list ∙ omega (arith, mul-suc k m)) (below-drop q k list below) in
    record {
      groups = i ∷ rest.groups;
      count = ap suc rest.count;
      below = (less, rest.below);
      joined = ap₂ (λ (xs ys : List ℕ). xs ++ ys) is rest.joined ∙ take-append-drop k list;
    }

-- ---- the first groups, and those behind them

digits-below : (q k i : ℕ) → 0 < q → Below q (digits q k i)
unfolding digits
digits-below q zero i some = tt
digits-below q (suc k) i some = (mod-lt i some, digits-below q k (i / q) some)

module _ (q k : ℕ) where
  -- k·(n + 1) numbers are those of one group and k·n more
  more : (n i : ℕ) → k * suc n ≡ length (digits q k i) + k * n
  more n i = mul-suc k n ∙ add_comm (k * n) k ∙ ap (λ (l : ℕ). l + k * n) (sym (digits-length q k i))

  pub take-groups : (n : ℕ) (is : List ℕ) → take (k * n) (flat_map (digits q k) is) ≡ flat_map (digits q k) (take n is)
  unfolding flat_map
  take-groups zero is = ap (λ (l : ℕ). take l (flat_map (digits q k) is)) (mul-zero k)
  take-groups (suc n) [] = take-nil (k * suc n)
  take-groups (suc n) (i ∷ is) =
      ap (λ (l : ℕ). take l (digits q k i ++ flat_map (digits q k) is)) (more n i)
      ∙ take-append-add (digits q k i) (flat_map (digits q k) is) (k * n)
      ∙ ap (λ (xs : List ℕ). digits q k i ++ xs) (take-groups n is)

  pub drop-groups : (n : ℕ) (is : List ℕ) → drop (k * n) (flat_map (digits q k) is) ≡ flat_map (digits q k) (drop n is)
  unfolding flat_map
  drop-groups zero is = ap (λ (l : ℕ). drop l (flat_map (digits q k) is)) (mul-zero k)
  drop-groups (suc n) [] = drop-nil (k * suc n)
  drop-groups (suc n) (i ∷ is) =
      ap (λ (l : ℕ). drop l (digits q k i ++ flat_map (digits q k) is)) (more n i)
      ∙ drop-append-add (digits q k i) (flat_map (digits q k) is) (k * n)
      ∙ drop-groups n is

  pub groups-length : (is : List ℕ) → length (flat_map (digits q k) is) ≡ k * length is
  unfolding flat_map
  groups-length [] = sym (mul-zero k)
  groups-length (i ∷ is) =
      length-append (digits q k i) (flat_map (digits q k) is)
      ∙ ap (λ (l : ℕ). length (digits q k i) + l) (groups-length is)
      ∙ sym (more (length is) i)

  pub groups-below : 0 < q → (is : List ℕ) → Below q (flat_map (digits q k) is)
  unfolding flat_map
  groups-below some [] = tt
  groups-below some (i ∷ is) =
      below-append q (digits q k i) (flat_map (digits q k) is) (digits-below q k i some) (groups-below some is)
