-- A sheet on which words are laid one behind the other.
use Prim.Native.Nat.{ℕ, zero, suc, ◌+◌, ◌-◌, ◌*◌, ◌≤◌, ◌<◌}
use mathlib.Core.List.{List, [], ◌∷◌, ◌++◌, append_assoc}
use mathlib.Core.Logic.{◌⊎◌, inl, inr}
use mathlib.Core.Path.{◌≡◌, refl, sym, ap, ap₂, ◌∙◌}
use native.Mathlib.Nat.{mul_assoc, mul_left_comm, mul-add, mul-le-mul_left, mul-suc, eq-or-lt_of_le, le_of_suc-le-suc}
use native.Mathlib.Omega.{arith}
use lib.ListN.{length, get_or, drop, set, take, length-append, get_or-append}
use lib.Seq.{sets, sets-eq, length-sets, length-take-le, get_or-append-add, drop-append-add, drop_at, get_or-drop, get_or-set_other}
use Rattle.evaluation.specs.Sheet.{words_below, laid}

pub sets-append : (sheet : List ℕ) (at : ℕ) (xs ys : List ℕ) →
    sets sheet at (xs ++ ys) ≡ sets (sets sheet at xs) (at + length xs) ys
sets-append sheet at [] ys = ap (λ (i : ℕ). sets sheet i ys) (let e : at ≡ at + 0 = omega arith in e)
sets-append sheet at (x ∷ xs) ys =
    sets-append (set sheet at x) (suc at) xs ys
    ∙ ap (λ (i : ℕ). sets (sets (set sheet at x) (suc at) xs) i ys)
    (let e : suc at + length xs ≡ at + suc (length xs) = omega arith in e)

-- three runs of w stores, one behind the other
pub three-runs : (w i : ℕ) (sheet a b c : List ℕ) → length a ≡ w → length b ≡ w →
    sets (sets (sets sheet (w * (3 * i)) a) (w * (3 * i + 1)) b) (w * (3 * i + 2)) c ≡ sets sheet (3 * w * i) (a ++ (b ++ c))
three-runs w i sheet a b c long long' =
    let begin : w * (3 * i) ≡ 3 * w * i = omega (arith, mul_assoc 3 w i, mul_left_comm w 3 i) in
    let second : w * (3 * i + 1) ≡ 3 * w * i + length a = omega (arith, begin, mul-add w (3 * i) 1) in
    let third : w * (3 * i + 2) ≡ 3 * w * i + length a + length b = omega (arith, begin, mul-add w (3 * i) 2) in
    (λ t. sets (sets (sets sheet (begin t) a) (second t) b) (third t) c)
    ∙ sym (sets-append sheet (3 * w * i) a (b ++ c) ∙ sets-append (sets sheet (3 * w * i) a) (3 * w * i + length a) b c)

-- places before the first that is stored are as they were
sets-before : (sheet : List ℕ) (at : ℕ) (xs : List ℕ) (i : ℕ) → i < at → get_or (sets sheet at xs) i 0 ≡ get_or sheet i 0
sets-before sheet at [] i l = refl
sets-before sheet at (x ∷ xs) i l =
    sets-before (set sheet at x) (suc at) xs i (omega arith) ∙ get_or-set_other sheet at i x 0 (λ e. omega arith)

module _ {X : Type 0} (none : X) (w : ℕ) (words : ℕ → List X) (each : (i : ℕ) → length (words i) ≡ w) where
  words-length : (count : ℕ) → length (words_below words count) ≡ w * count
  unfolding words_below
  words-length zero = omega arith
  words-length (suc count) =
      length-append (words_below words count) (words count) ∙ omega (arith, words-length count, each count)

  pub word_at : (count i j : ℕ) → i < count → j < w → get_or (words_below words count) (w * i + j) none ≡ get_or (words i) j none
  unfolding words_below
  word_at zero i j l m = absurd (omega arith)
  word_at (suc count) i j l m = go (eq-or-lt_of_le (le_of_suc-le-suc l)) (word_at count i j)
    where
      go : (i ≡ count) ⊎ (i < count) →
          (i < count → j < w → get_or (words_below words count) (w * i + j) none ≡ get_or (words i) j none) →
          get_or (words_below words count ++ words count) (w * i + j) none ≡ get_or (words i) j none
      go (inl e) earlier =
          rw e (ap (λ (n : ℕ). get_or (words_below words count ++ words count) (n + j) none) (sym (words-length count))
          ∙ get_or-append-add (words_below words count) (words count) j none)
      go (inr before) earlier =
          get_or-append (words_below words count) (words count) none (w * i + j)
          (omega (arith, words-length count, mul-le-mul_left w before, mul-suc w i))
          ∙ earlier before m

  -- and with something behind them
  pub word-before : (rest : List X) (count i j : ℕ) → i < count → j < w →
      get_or (words_below words count ++ rest) (w * i + j) none ≡ get_or (words i) j none
  word-before rest count i j l m =
      get_or-append (words_below words count) rest none (w * i + j)
      (omega (arith, words-length count, mul-le-mul_left w l, mul-suc w i))
      ∙ word_at count i j l m

module _ (w : ℕ) (words : ℕ → List ℕ) (each : (i : ℕ) → length (words i) ≡ w) where
  -- one array more is one run of stores more
  pub laid_more : (base count : ℕ) (sheet : List ℕ) →
      sets (laid base words count sheet) (base + w * count) (words count) ≡ laid base words (suc count) sheet
  unfolding words_below
  laid_more base count sheet =
      ap (λ (n : ℕ). sets (laid base words count sheet) (base + n) (words count)) (sym (words-length 0 w words each count))
      ∙ sym (sets-append sheet base (words_below words count) (words count))

  -- what was before, the words, and what was behind
  pub laid-is : (base count : ℕ) (sheet : List ℕ) → base + w * count ≤ length sheet →
      laid base words count sheet ≡ take base sheet ++ (words_below words count ++ drop (base + w * count) sheet)
  laid-is base count sheet room =
      sets-eq (words_below words count) sheet base (omega (arith, words-length 0 w words each count))
      ∙ append_assoc (take base sheet) (words_below words count) (drop (base + length (words_below words count)) sheet)
      ∙ ap (λ (n : ℕ). take base sheet ++ (words_below words count ++ drop (base + n) sheet)) (words-length 0 w words each count)

  -- array i's words begin at base + w·i
  pub laid-at : (base count : ℕ) (sheet : List ℕ) → base + w * count ≤ length sheet → (i j : ℕ) → i < count → j < w →
      get_or (laid base words count sheet) (base + (w * i + j)) 0 ≡ get_or (words i) j 0
  laid-at base count sheet room i j l m =
      let behind = drop (base + w * count) sheet in
      ap (λ (s : List ℕ). get_or s (base + (w * i + j)) 0) (laid-is base count sheet room)
      ∙ ap (λ (n : ℕ). get_or (take base sheet ++ (words_below words count ++ behind)) (n + (w * i + j)) 0)
      (sym (length-take-le base sheet (omega arith)))
      ∙ get_or-append-add (take base sheet) (words_below words count ++ behind) (w * i + j) 0
      ∙ get_or-append (words_below words count) behind 0 (w * i + j)
      (omega (arith, words-length 0 w words each count, mul-le-mul_left w l, mul-suc w i))
      ∙ word_at 0 w words each count i j l m

  -- and at w·i where the base is 0
  pub laid-first : (count : ℕ) (sheet : List ℕ) → w * count ≤ length sheet → (i j : ℕ) → i < count → j < w →
      get_or (laid 0 words count sheet) (w * i + j) 0 ≡ get_or (words i) j 0
  laid-first count sheet room i j l m =
      let at : w * i + j ≡ 0 + (w * i + j) = omega arith in
      ap (λ (n : ℕ). get_or (laid 0 words count sheet) n 0) at ∙ laid-at 0 count sheet (omega (arith, room)) i j l m

  -- every other place is as it was
  pub laid-before : (base count : ℕ) (sheet : List ℕ) (i : ℕ) → i < base → get_or (laid base words count sheet) i 0 ≡ get_or sheet i 0
  laid-before base count sheet i l = sets-before sheet base (words_below words count) i l

  pub laid-behind : (base count : ℕ) (sheet : List ℕ) → base + w * count ≤ length sheet →
      drop (base + w * count) (laid base words count sheet) ≡ drop (base + w * count) sheet
  laid-behind base count sheet room =
      let behind = drop (base + w * count) sheet in
      ap (drop (base + w * count)) (laid-is base count sheet room)
      ∙ ap (λ (n : ℕ). drop (n + w * count) (take base sheet ++ (words_below words count ++ behind)))
      (sym (length-take-le base sheet (omega arith)))
      ∙ drop-append-add (take base sheet) (words_below words count ++ behind) (w * count)
      ∙ drop_at (words_below words count) behind (w * count) (words-length 0 w words each count)

pub laid-length : (base : ℕ) (words : ℕ → List ℕ) (count : ℕ) (sheet : List ℕ) →
    length (laid base words count sheet) ≡ length sheet
laid-length base words count sheet = length-sets sheet base (words_below words count)

words_same : (words others : ℕ → List ℕ) (count : ℕ) → ((i : ℕ) → i < count → words i ≡ others i) →
    words_below words count ≡ words_below others count
unfolding words_below
words_same words others zero same = refl
words_same words others (suc count) same =
    ap₂ (λ (x y : List ℕ). x ++ y) (words_same words others count (λ i l. same i (omega arith))) (same count (omega arith))

-- sheets on which the same words are laid
pub laid_same : (base : ℕ) (words others : ℕ → List ℕ) (count : ℕ) (sheet : List ℕ) →
    ((i : ℕ) → i < count → words i ≡ others i) → laid base words count sheet ≡ laid base others count sheet
laid_same base words others count sheet same = ap (sets sheet base) (words_same words others count same)

-- sheets that are the same from a place on, place by place
pub same-behind : (n : ℕ) (sheet other : List ℕ) → drop n sheet ≡ drop n other → (k : ℕ) → n ≤ k → get_or sheet k 0 ≡ get_or other k 0
same-behind n sheet other e k l =
    let at : k ≡ n + (k - n) = omega arith in
    ap (λ (i : ℕ). get_or sheet i 0) at
    ∙ sym (get_or-drop n sheet (k - n) 0)
    ∙ ap (λ (s : List ℕ). get_or s (k - n) 0) e
    ∙ get_or-drop n other (k - n) 0
    ∙ ap (λ (i : ℕ). get_or other i 0) (sym at)
