-- No two reasons have one number, and none has 0 or 35: computed tests of all reasons.
use Prim.Native.Nat.{ℕ}
use mathlib.Core.Bool.{Bool, true, false, cond, not, ◌&&◌, ◌||◌, and-eq-true_iff, false≢true}
use mathlib.Core.List.{List, [], ◌∷◌}
use mathlib.Core.Logic.{inl, inr}
use mathlib.Core.Path.{◌≡◌, refl, sym, ap, ◌∙◌}
use borrow.Author.Tests.{eq-eqb}
use lib.Dec.{eqb}
use denote.Struct.Field.{Field}
use denote.Enum.Declared.{Choice}
use Rattle.refusal.specs.Number.{number_of}
use Rattle.refusal.specs.declared.Reason.{Reason}
use Rattle.refusal.specs.contracts.Reason.{the_parts as parts, as_values, the_make as make, the_eta as eta}

-- ---- the cases of an enum that hold nothing

-- a test of each case; false where a case holds something
each : (Fss : List (List Field)) → (Choice Fss → Bool) → Bool
each [] test = true
each ([] ∷ Fss) test = test (inl tt) && each Fss (λ c. test (inr c))
each ((F ∷ Fs) ∷ Fss) test = false

each-passes : (Fss : List (List Field)) (test : Choice Fss → Bool) → each Fss test ≡ true → (c : Choice Fss) → test c ≡ true
unfolding each
each-passes [] test e c = absurd c
each-passes ([] ∷ Fss) test e (inl v) = ((and-eq-true_iff (test (inl tt)) (each Fss (λ c. test (inr c)))).0 e).0
each-passes ([] ∷ Fss) test e (inr c) =
    each-passes Fss (λ d. test (inr d)) ((and-eq-true_iff (test (inl tt)) (each Fss (λ c. test (inr c)))).0 e).1 c
each-passes ((F ∷ Fs) ∷ Fss) test e c = absurd (false≢true e)

-- are two of them one?
one : (Fss : List (List Field)) → Choice Fss → Choice Fss → Bool
one [] c d = true
one ([] ∷ Fss) (inl v) (inl w) = true
one ([] ∷ Fss) (inl v) (inr d) = false
one ([] ∷ Fss) (inr c) (inl w) = false
one ([] ∷ Fss) (inr c) (inr d) = one Fss c d
one ((F ∷ Fs) ∷ Fss) c d = false

one-equal : (Fss : List (List Field)) (c d : Choice Fss) → one Fss c d ≡ true → c ≡ d
unfolding one
one-equal [] c d e = absurd c
one-equal ([] ∷ Fss) (inl v) (inl w) e = refl
one-equal ([] ∷ Fss) (inl v) (inr d) e = absurd (false≢true e)
one-equal ([] ∷ Fss) (inr c) (inl w) e = absurd (false≢true e)
one-equal ([] ∷ Fss) (inr c) (inr d) e = ap inr (one-equal Fss c d e)
one-equal ((F ∷ Fs) ∷ Fss) c d e = absurd (false≢true e)

-- ---- the numbers of the reasons

-- a reason's number is not 0, and no other reason has it
abbrev alone : Choice parts → Bool
alone c =
    not (eqb (number_of (make c)) 0) && each parts (λ d. one parts c d || not (eqb (number_of (make c)) (number_of (make d))))

-- the test
alone-each : each parts alone ≡ true
unfolding each one number_of
alone-each = refl

each-alone : (r : Reason) → alone (as_values r) ≡ true
each-alone r = each-passes parts alone alone-each (as_values r)

same-unless : (same : Bool) (n m : ℕ) → n ≡ m → (same || not (eqb n m)) ≡ true → same ≡ true
same-unless true n m e t = refl
same-unless false n m e t = absurd (false≢true (sym (ap not (eq-eqb n m e)) ∙ t))

pub number-injective : (r s : Reason) → number_of r ≡ number_of s → r ≡ s
number-injective r s e =
    let others = ((and-eq-true_iff (not (eqb (number_of (make (as_values r))) 0)) _).0 (each-alone r)).1 in
    let unless = each-passes parts _ others (as_values s) in
    let numbers : number_of (make (as_values r)) ≡ number_of (make (as_values s)) = ap number_of (eta r) ∙ e ∙ ap number_of (sym (eta s)) in
    let same = one-equal parts (as_values r) (as_values s) (same-unless _ _ _ numbers unless) in
    sym (eta r) ∙ ap make same ∙ eta s

pub number-some : (r : Reason) → number_of r ≡ 0 → ⊥
number-some r e =
    let nonzero = ((and-eq-true_iff (not (eqb (number_of (make (as_values r))) 0)) _).0 (each-alone r)).0 in
    false≢true (sym (ap not (eq-eqb _ 0 (ap number_of (eta r) ∙ e))) ∙ nonzero)

-- 35 is the number of no reason: keys of two shapes are not refused (02, E7)
abbrev other-than-35 : Choice parts → Bool
other-than-35 c = not (eqb (number_of (make c)) 35)

none-35-each : each parts other-than-35 ≡ true
unfolding each number_of
none-35-each = refl

pub none-35 : (r : Reason) → number_of r ≡ 35 → ⊥
none-35 r e =
    false≢true (sym (ap not (eq-eqb _ 35 (ap number_of (eta r) ∙ e))) ∙ each-passes parts other-than-35 none-35-each (as_values r))

-- ---- the reason of a number

-- the first case that has the number; `other` where none has
found : (Fss : List (List Field)) → (Choice Fss → Reason) → Reason → ℕ → Reason
found [] of other n = other
found ([] ∷ Fss) of other n = cond (eqb (number_of (of (inl tt))) n) (of (inl tt)) (found Fss (λ c. of (inr c)) other n)
found ((F ∷ Fs) ∷ Fss) of other n = other

unfoldable pub reason_of : ℕ → Reason
unfolding found number_of
reason_of n = found parts make Reason.KeyTooLong n

pub number_is : (n : ℕ) (r : Reason) → r ≡ reason_of n → number_of (reason_of n) ≡ n → n ≡ number_of r
number_is n r e f = sym (ap number_of e ∙ f)
