-- Lists of which something holds for each element.
use Prim.Native.Nat.{ℕ, zero, suc, ◌<◌}
use mathlib.Core.List.{List, [], ◌∷◌, ◌++◌, map}
use mathlib.Core.Path.{◌≡◌, refl, ap₂}
use native.Mathlib.Omega.{arith}
use lib.ListN.{length, get_or}
use Rattle.arrays.specs.WellFormed.{Each}

pub each_to : {A : Type 0} (P Q : A → Type 0) → ((x : A) → P x → Q x) → (xs : List A) → Each P xs → Each Q xs
each_to P Q f [] each = tt
each_to P Q f (x ∷ xs) each = (f x each.0, each_to P Q f xs each.1)

pub each_append : {A : Type 0} (P : A → Type 0) (xs ys : List A) → Each P xs → Each P ys → Each P (xs ++ ys)
each_append P [] ys each more = more
each_append P (x ∷ xs) ys each more = (each.0, each_append P xs ys each.1 more)

pub each-apart : {A : Type 0} (P : A → Type 0) (xs ys : List A) → Each P (xs ++ ys) → Each P xs × Each P ys
each-apart P [] ys each = (tt, each)
each-apart P (x ∷ xs) ys each = let rest = each-apart P xs ys each.1 in ((each.0, rest.0), rest.1)

-- of the element at a place
pub each_at : {A : Type 0} (P : A → Type 0) (xs : List A) (d : A) → Each P xs → (i : ℕ) → i < length xs → P (get_or xs i d)
each_at P [] d each i l = absurd (omega arith)
each_at P (x ∷ xs) d each zero l = each.0
each_at P (x ∷ xs) d each (suc i) l = each_at P xs d each.1 i (omega arith)

-- of any elements
pub each_all : {A : Type 0} (Q : A → Type 0) → ((x : A) → Q x) → (xs : List A) → Each Q xs
each_all Q h [] = tt
each_all Q h (x ∷ xs) = (h x, each_all Q h xs)

-- of the images, where it holds of each element
pub each_map : {A B : Type 0} (P : A → Type 0) (Q : B → Type 0) (f : A → B) → ((x : A) → P x → Q (f x)) →
    (xs : List A) → Each P xs → Each Q (map f xs)
each_map P Q f h [] each = tt
each_map P Q f h (x ∷ xs) each = (h x each.0, each_map P Q f h xs each.1)

-- of the images of any elements
pub each-mapped : {A B : Type 0} (Q : B → Type 0) (f : A → B) → ((x : A) → Q (f x)) → (xs : List A) → Each Q (map f xs)
each-mapped Q f h [] = tt
each-mapped Q f h (x ∷ xs) = (h x, each-mapped Q f h xs)

-- functions that agree where it holds have the same images
pub each-map-same : {A B : Type 0} (P : A → Type 0) (f g : A → B) → ((x : A) → P x → f x ≡ g x) →
    (xs : List A) → Each P xs → map f xs ≡ map g xs
each-map-same P f g same [] each = refl
each-map-same P f g same (x ∷ xs) each = ap₂ ◌∷◌ (same x each.0) (each-map-same P f g same xs each.1)
