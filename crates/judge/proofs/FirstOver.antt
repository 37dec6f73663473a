-- The first of some numbers that is p or more.
use Prim.Native.Nat.{ℕ, suc, ◌+◌, ◌≤◌, ◌<◌}
use mathlib.Core.List.{List, [], ◌∷◌, ◌++◌}
use mathlib.Core.Path.{◌≡◌, sym, ap, ◌∙◌}
use native.Mathlib.Decide.{dec_le}
use native.Mathlib.Omega.{arith}
use mathlib.Core.Bool.{Bool, true, false, cond, ◌&&◌}
use borrow.Author.Tests.{le-leb, lt-leb, ltb-true, ltb-false}
use lib.Dec.{leb, ltb}
use lib.ListN.{length}
use Rattle.std.specs.Prelude.{Option, None, Some, MatchOption, refl}
use Rattle.std.specs.List.{position_or_len}
use Rattle.std.proofs.lemmas.List.Recursion.{is_position_or_len}
use Rattle.algebra.specs.Points.{Below}
use Rattle.algebra.proofs.CoordinatesBelow.{below-append}
use Rattle.field.specs.Fp.{p}
use Rattle.judge.specs.Judged.{first_over}

here : (x : ℕ) (numbers : List ℕ) → p ≤ x → first_over (x ∷ numbers) ≡ 0
unfolding first_over
here x numbers l = rw (le-leb p x l)

later : (x : ℕ) (numbers : List ℕ) → x < p → first_over (x ∷ numbers) ≡ suc (first_over numbers)
unfolding first_over
later x numbers l = rw (lt-leb p x l)

-- where no number is p or more, all are below p
pub none_over : (numbers : List ℕ) → length numbers ≤ first_over numbers → Below p numbers
none_over [] l = tt
none_over (x ∷ numbers) l = go (dec_le p x) (none_over numbers)
  where
    go : Dec (p ≤ x) → (length numbers ≤ first_over numbers → Below p numbers) → (x < p) × Below p numbers
    go (yes over) rest = absurd (omega (arith, here x numbers over))
    go (no below) rest =
        let small : x < p = omega arith in
        (small, rest (omega (arith, later x numbers small)))

pub all-below : (numbers : List ℕ) → Below p numbers → length numbers ≤ first_over numbers
unfolding first_over
all-below [] below = omega arith
all-below (x ∷ numbers) below = omega (arith, later x numbers below.0, all-below numbers below.1)

-- in two lists, one behind the other
pub over_first : (rows columns : List ℕ) → first_over rows < length rows → first_over (rows ++ columns) ≡ first_over rows
over_first [] columns l = absurd (omega arith)
over_first (x ∷ rows) columns l = go (dec_le p x) (over_first rows columns)
  where
    go : Dec (p ≤ x) → (first_over rows < length rows → first_over (rows ++ columns) ≡ first_over rows) →
        first_over (x ∷ (rows ++ columns)) ≡ first_over (x ∷ rows)
    go (yes over) rest = here x (rows ++ columns) over ∙ sym (here x rows over)
    go (no below) rest =
        let small : x < p = omega arith in
        later x (rows ++ columns) small ∙ ap suc (rest (omega (arith, later x rows small))) ∙ sym (later x rows small)

pub over-second : (rows columns : List ℕ) → length rows ≤ first_over rows →
    first_over (rows ++ columns) ≡ length rows + first_over columns
over-second [] columns l = omega arith
over-second (x ∷ rows) columns l = go (dec_le p x) (over-second rows columns)
  where
    go : Dec (p ≤ x) → (length rows ≤ first_over rows → first_over (rows ++ columns) ≡ length rows + first_over columns) →
        first_over (x ∷ (rows ++ columns)) ≡ suc (length rows) + first_over columns
    go (yes over) rest = absurd (omega (arith, here x rows over))
    go (no below) rest =
        let small : x < p = omega arith in
        later x (rows ++ columns) small ∙ ap suc (rest (omega (arith, later x rows small))) ∙ omega arith

first_over-most : (numbers : List ℕ) → first_over numbers ≤ length numbers
unfolding first_over
first_over-most [] = omega arith
first_over-most (x ∷ numbers) = go (leb p x) (first_over-most numbers)
  where
    go : (b : Bool) → first_over numbers ≤ length numbers → cond b 0 (suc (first_over numbers)) ≤ suc (length numbers)
    go true l = omega arith
    go false l = omega arith

-- one number more of which each is tried
pub below-turn : (numbers : List ℕ) (x : ℕ) (before now : Bool) → now ≡ (before && ltb x p) → (before ≡ true → Below p numbers) →
    now ≡ true → Below p (numbers ++ x ∷ [])
below-turn numbers x true now e b t = below-append p numbers (x ∷ []) (b refl) (ltb-true x p (sym e ∙ t), tt)
below-turn numbers x false now e b t = absurd (cc)

-- what a search answers: the index of the first number that is p or more, or that all are below p
abbrev pub Found : List ℕ → Option ℕ → Type 0
Found numbers r = MatchOption r (first_over numbers ≡ length numbers) (λ i. (i < length numbers) × (i ≡ first_over numbers))

pub found-none : (numbers : List ℕ) → Below p numbers → Found numbers None
found-none numbers below = omega (arith, first_over-most numbers, all-below numbers below)

pub found_by-position : (numbers : List ℕ) (r : Option ℕ) →
    r ≡ cond (ltb (position_or_len (leb p) numbers) (length numbers)) (Some (position_or_len (leb p) numbers)) None → Found numbers r
unfolding first_over
found_by-position numbers r e =
    let same : first_over numbers ≡ position_or_len (leb p) numbers = is_position_or_len first_over (leb p) refl clause numbers in
    go (ltb (first_over numbers) (length numbers)) refl
    (rw (← same) at e)
  where
    clause : (x : ℕ) (xs : List ℕ) → first_over (x ∷ xs) ≡ cond (leb p x) 0 (1 + first_over xs)
    clause x xs = ap (cond (leb p x) 0) (let e : suc (first_over xs) ≡ 1 + first_over xs = omega arith in e)

    go : (b : Bool) → ltb (first_over numbers) (length numbers) ≡ b → r ≡ cond (ltb (first_over numbers) (length numbers)) (Some (first_over numbers)) None →
        Found numbers r
    go true t f = rw (f, t) (ltb-true _ _ t, refl)
    go false t f = rw (f, t) (omega (arith, ltb-false _ _ t, first_over-most numbers))
