-- The table of offsets, which fills from its first place on.
use Prim.Native.Nat.{ℕ, suc, ◌≤◌, ◌<◌}
use mathlib.Core.List.{List, [], ◌∷◌, ◌++◌, map, append-nil}
use mathlib.Core.Path.{◌≡◌, refl, sym, ap, subst, ◌∙◌}
use native.Mathlib.Decide.{ℕ_discrete}
use native.Mathlib.Omega.{arith}
use lib.ListN.{length, get_or, take, set, length-append, length-set, get_or-append}
use lib.Seq.{get_or_at, get_or-set_same, get_or-set_other, take-suc-set}
use Rattle.records.specs.declared.Shape.{Shape}
use Rattle.arrays.specs.WellFormed.{Each}
use Rattle.key.specs.Before.{opening_at}
use Rattle.rules.specs.declared.Opening.{Opening}

-- a table with an offset in place i, where there is an opening
abbrev pub stored : List ℕ → ℕ → ℕ → List Opening → List ℕ
stored starts i at [] = starts
stored starts i at (o ∷ openings) = set starts i at

pub stored-length : (starts : List ℕ) (i at : ℕ) (openings : List Opening) → length (stored starts i at openings) ≡ length starts
stored-length starts i at [] = refl
stored-length starts i at (o ∷ openings) = length-set starts i at

-- the offsets with at most one opening more
pub starts-next : (openings more : List Opening) (starts : List ℕ) (at : ℕ) → length more ≤ 1 →
    length (openings ++ more) ≤ length starts →
    take (length (openings ++ more)) (stored starts (length openings) at more) ≡
    take (length openings) starts ++ map (λ opening. at) more
starts-next openings [] starts at one room =
    ap (λ (os : List Opening). take (length os) starts) (append-nil openings) ∙ sym (append-nil (take (length openings) starts))
starts-next openings (o ∷ []) starts at one room =
    let count : length (openings ++ (o ∷ [])) ≡ suc (length openings) = omega (arith, length-append openings (o ∷ [])) in
    ap (λ (n : ℕ). take n (set starts (length openings) at)) count
    ∙ take-suc-set starts (length openings) at (omega (arith, count))
starts-next openings (o ∷ x ∷ more) starts at one room = absurd (omega arith)

-- What holds of each place's offset and its opening's shape holds with at most one opening more, if it holds of that one.
module _ (Stands : ℕ → Shape → Type 0) (starts : List ℕ) (at : ℕ) where
  abbrev Places : List ℕ → List Opening → Type 0
  Places table openings = (i : ℕ) → i < length openings → Stands (get_or table i 0) (opening_at openings i).shape

  place-one : (openings : List Opening) (o : Opening) → length openings < length starts → Places starts openings →
      Stands at o.shape → Places (set starts (length openings) at) (openings ++ (o ∷ []))
  place-one openings o room stand this i l =
      elim (ℕ_discrete i (length openings)) [
        | yes e ↦ subst (λ (n : ℕ). Stands n (opening_at (openings ++ (o ∷ [])) i).shape)
            (sym (ap (λ (j : ℕ). get_or (set starts (length openings) at) j 0) e ∙ get_or-set_same starts (length openings) at 0 room))
            (subst (λ (x : Opening). Stands at x.shape) (sym (get_or_at openings o [] nothing i (sym e))) this)
        | no other ↦ subst (λ (n : ℕ). Stands n (opening_at (openings ++ (o ∷ [])) i).shape)
            (sym (get_or-set_other starts (length openings) i at 0 other))
            (subst (λ (x : Opening). Stands (get_or starts i 0) x.shape)
            (sym (get_or-append openings (o ∷ []) nothing i (before other)))
            (stand i (before other)))
      ]
    where
      nothing : Opening
      nothing = record { kind = 0; shape = record { rows = 0; columns = 0 } }

      before : (i ≡ length openings → ⊥) → i < length openings
      before other = omega (arith, other, l, length-append openings (o ∷ []))

  pub places-next : (openings more : List Opening) → length more ≤ 1 → length (openings ++ more) ≤ length starts →
      Places starts openings → Each (λ (o : Opening). Stands at o.shape) more →
      Places (stored starts (length openings) at more) (openings ++ more)
  places-next openings [] one room stand these =
      subst (λ (os : List Opening). Places starts os) (sym (append-nil openings)) stand
  places-next openings (o ∷ []) one room stand these =
      place-one openings o (omega (arith, length-append openings (o ∷ []))) stand these.0
  places-next openings (o ∷ x ∷ more) one room stand these = absurd (omega arith)
