-- The way from a point to a cell: each coordinate becomes a bit, it is asked once for each, and at its end the keys differ.
use Prim.Native.Nat.{ℕ, suc, ◌+◌, ◌<◌}
use mathlib.Core.Bool.{Bool, true, false}
use mathlib.Core.List.{List, [], ◌∷◌, ◌++◌, map}
use mathlib.Core.Path.{◌≡◌, refl, ap, ◌∙◌}
use native.Mathlib.Omega.{arith}
use lib.ListN.{length, length-map}
use Rattle.algebra.specs.Points.{Below}
use Rattle.arrays.specs.WellFormed.{Each}
use Rattle.location.specs.Locate.{bit_for, settled, asked}

pub bit_below : (q : ℕ) → 1 < q → (b : Bool) → bit_for b < q
bit_below q more true = more
bit_below q more false = omega arith

pub settled-length : (same_at : List ℕ → Bool) (point : List ℕ) → length (settled same_at point) ≡ length point
unfolding settled
settled-length same_at [] = refl
settled-length same_at (r ∷ later) = ap suc (settled-length _ later)

pub settled-bits : (same_at : List ℕ → Bool) (point : List ℕ) → Below 2 (settled same_at point)
unfolding settled
settled-bits same_at [] = tt
settled-bits same_at (r ∷ later) = (bit_below 2 (omega arith) (same_at (0 ∷ later)), settled-bits _ later)

-- ---- what is asked

pub asked-count : (same_at : List ℕ → Bool) (point : List ℕ) → length (asked same_at point) ≡ length point
unfolding asked
asked-count same_at [] = refl
asked-count same_at (r ∷ later) =
    ap suc (length-map (asked (λ point. same_at (bit_for (same_at (0 ∷ later)) ∷ point)) later) _ ∙ asked-count _ later)

each-of-mapped : {A B : Type 0} (Q : B → Type 0) (f : A → B) (xs : List A) → Each Q (map f xs) → Each (λ x. Q (f x)) xs
each-of-mapped Q f [] each = tt
each-of-mapped Q f (x ∷ xs) each = (each.0, each-of-mapped Q f xs each.1)

-- answers that are alike at the points asked lead the same way
pub asked-only : (same_at same_at' : List ℕ → Bool) (point : List ℕ) →
    Each (λ at. same_at at ≡ same_at' at) (asked same_at point) → settled same_at point ≡ settled same_at' point
unfolding settled asked
asked-only same_at same_at' [] alike = refl
asked-only same_at same_at' (r ∷ later) alike =
    let bit = bit_for (same_at (0 ∷ later)) in
    ap (λ (rest : List ℕ). bit ∷ rest)
    (asked-only (λ point. same_at (bit ∷ point)) (λ point. same_at' (bit ∷ point)) later
    (each-of-mapped (λ at. same_at at ≡ same_at' at) (λ point. bit ∷ point) (asked (λ point. same_at (bit ∷ point)) later) alike.1))
    ∙ ap (λ (b : Bool). bit_for b ∷ settled (λ point. same_at' (bit_for b ∷ point)) later) alike.0

-- answers that are alike everywhere do
pub settled-alike : (same_at same_at' : List ℕ → Bool) → ((point : List ℕ) → same_at point ≡ same_at' point) → (point : List ℕ) →
    settled same_at point ≡ settled same_at' point
settled-alike same_at same_at' alike point = ap (λ (s : List ℕ → Bool). settled s point) (λ t at. alike at t)

-- ---- where the keys differ

-- At a point of numbers below q the keys differ. Then they differ where one coordinate, whichever, is set to 0 or where it is set to 1.
abbrev pub OneOfTwo : ℕ → ℕ → (List ℕ → Bool) → Type 0
OneOfTwo q count same_at =
    (before later : List ℕ) (r : ℕ) → length before + suc (length later) ≡ count → Below q (before ++ (r ∷ later)) →
    same_at (before ++ (r ∷ later)) ≡ false → same_at (before ++ (0 ∷ later)) ≡ true → same_at (before ++ (1 ∷ later)) ≡ false

module _ (q : ℕ) (more : 1 < q) where
  step : (same_at : List ℕ → Bool) (r : ℕ) (later : List ℕ) → Below q (r ∷ later) →
      OneOfTwo q (suc (length later)) same_at → same_at (r ∷ later) ≡ false → same_at (bit_for (same_at (0 ∷ later)) ∷ later) ≡ false
  step same_at r later below one_of_two differs = go (same_at (0 ∷ later)) refl
    where
      go : (b : Bool) → same_at (0 ∷ later) ≡ b → same_at (bit_for b ∷ later) ≡ false
      go true e = one_of_two [] later r (omega arith) below differs e
      go false e = e

  pub settled-differs : (same_at : List ℕ → Bool) (point : List ℕ) → OneOfTwo q (length point) same_at → Below q point →
      same_at point ≡ false → same_at (settled same_at point) ≡ false
  unfolding settled
  settled-differs same_at [] one_of_two below differs = differs
  settled-differs same_at (r ∷ later) one_of_two below differs =
      let bit = bit_for (same_at (0 ∷ later)) in
      settled-differs (λ point. same_at (bit ∷ point)) later
      (λ before rest s count inside. one_of_two (bit ∷ before) rest s (omega (arith, count)) (bit_below q more (same_at (0 ∷ later)), inside))
      below.1 (step same_at r later below one_of_two differs)
