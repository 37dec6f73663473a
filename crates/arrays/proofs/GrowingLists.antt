-- Lists that grow by one element at a time: an element, once added, stays where it is.
use Prim.Native.Nat.{ℕ, zero, suc, ◌≤◌, ◌<◌}
use mathlib.Core.List.{List, [], ◌∷◌, ◌++◌}
use mathlib.Core.Logic.{◌⊎◌, inl, inr}
use mathlib.Core.Path.{◌≡◌, sym, ap, subst, ◌∙◌}
use native.Mathlib.Decide.{dec_lt}
use native.Mathlib.Nat.{eq-or-lt_of_le, le_of_suc-le-suc}
use native.Mathlib.Omega.{arith}
use lib.ListN.{length, get_or, length-append, get_or-append, get_or-eq_default}
use lib.Seq.{get_or_at}

module _ {A : Type 0} (d : A) (below : ℕ → List A) (next : ℕ → A) (none : below zero ≡ [])
    (more : (n : ℕ) → below (suc n) ≡ below n ++ (next n ∷ [])) where
  grown-length : (n : ℕ) → length (below n) ≡ n
  grown-length zero = ap length none
  grown-length (suc n) = ap length (more n) ∙ omega (arith, length-append (below n) (next n ∷ []), grown-length n)

  pub grown-now : (j m : ℕ) → j < m → get_or (below m) j d ≡ next j
  grown-now j zero l = absurd (omega arith)
  grown-now j (suc m) l =
      ap (λ (list : List A). get_or list j d) (more m) ∙ go (eq-or-lt_of_le (le_of_suc-le-suc l)) (grown-now j m)
    where
      go : (j ≡ m) ⊎ (j < m) → (j < m → get_or (below m) j d ≡ next j) → get_or (below m ++ (next m ∷ [])) j d ≡ next j
      go (inl e) before = get_or_at (below m) (next m) [] d j (grown-length m ∙ sym e) ∙ ap next (sym e)
      go (inr earlier) before =
          get_or-append (below m) (next m ∷ []) d j (omega (arith, grown-length m)) ∙ before earlier

  pub grown-prefix : (j n m : ℕ) → j < n → n ≤ m → get_or (below n) j d ≡ get_or (below m) j d
  grown-prefix j n m l fits = grown-now j n l ∙ sym (grown-now j m (omega arith))

  -- what holds of the default and of every element that is added holds at each place
  pub grown-each : (Q : A → Type 0) → Q d → ((n : ℕ) → Q (next n)) → (n j : ℕ) → Q (get_or (below n) j d)
  grown-each Q default added n j = go (dec_lt j n)
    where
      go : Dec (j < n) → Q (get_or (below n) j d)
      go (yes l) = subst Q (sym (grown-now j n l)) (added j)
      go (no beyond) = subst Q (sym (get_or-eq_default (below n) d {n = j} (omega (arith, grown-length n)))) default
