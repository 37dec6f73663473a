-- What an outcome determines: a result by its values, a refusal by its number and its place, and that the two differ.
use Prim.Native.Nat.{ℕ}
use mathlib.Core.Path.{◌≡◌, refl, sym, ap, ◌∙◌}
use Rattle.std.specs.Prelude.{Result, Ok, Err, IsOk, IsErrAnd, MatchResult}
use Rattle.std.proofs.lemmas.Result.{err_from_is_err_and}
use native.Mathlib.Omega.{arith}
use Rattle.refusal.specs.Outcome.{given, refused, refusal_of, outcome_of, outcome, about}
use Rattle.refusal.specs.declared.PairRefusal.{PairRefusal}
use Rattle.refusal.specs.declared.Refusal.{Refusal}
use Rattle.refusal.specs.declared.Which.{Which}
use Rattle.refusal.proofs.Numbers.{number-injective}

pub given-injective : {A : Type 0} {a b : A} → given a ≡ given b → a ≡ b
given-injective e = cc

pub refusal-injective : {A : Type 0} (r s : Refusal) → refusal_of {A = A} r ≡ refusal_of s → r ≡ s
refusal-injective r s e =
    let reasons : r.reason ≡ s.reason = number-injective r.reason s.reason (cc) in
    let places : r.place ≡ s.place = cc in
    λ i. record { reason = reasons i; place = places i }

pub given-not-refused : {A : Type 0} {a : A} {n at : ℕ} → given a ≡ refused n at → ⊥
given-not-refused e = let o : ◌≡◌ {A = ℕ} 0 1 = cc in omega arith

-- results that say one thing are one, where `said` tells their values apart
pub outcome_of-injective : {A B : Type 0} (said : A → B) → ((a b : A) → said a ≡ said b → a ≡ b) → (r s : Result A Refusal) →
    outcome_of said r ≡ outcome_of said s → r ≡ s
outcome_of-injective said apart (Ok a) (Ok b) e = ap Ok (apart a b (given-injective e))
outcome_of-injective said apart (Ok a) (Err g) e = absurd (given-not-refused e)
outcome_of-injective said apart (Err f) (Ok b) e = absurd (given-not-refused (sym e))
outcome_of-injective said apart (Err f) (Err g) e = ap Err (refusal-injective f g e)

pub outcome-injective : {A : Type 0} (r s : Result A Refusal) → outcome r ≡ outcome s → r ≡ s
outcome-injective = outcome_of-injective (λ value. value) (λ a b e. e)

-- what `?` hands on is the refusal that it found
pub handed-on : {A E : Type 0} {f : E} (r : Result A E) → IsErrAnd r (λ g. g ≡ f) → r ≡ Err f
handed-on r is = let found = err_from_is_err_and r is in found.1 ∙ ap Err found.2

-- a refusal that is told of one of two keys, as `map_err` has it, is one
pub told-about : {A : Type 0} (r : Result A Refusal) (s : Result A PairRefusal) (key : Which) →
    MatchResult r (λ x. s ≡ Ok x) (λ f. IsErrAnd s (λ g. g ≡ about f key)) →
    (g : PairRefusal) → s ≡ Err g → (r ≡ Err g.refusal) × (g ≡ about g.refusal key)
told-about (Ok x) s key is g e = absurd (let o : ◌≡◌ {A = ℕ} 0 1 = cc in omega arith)
told-about (Err f) s key is g e =
    let same : g ≡ about f key = (let found : s ≡ Err (about f key) = handed-on s is in cc) in
    let refusals : f ≡ g.refusal = sym (ap (λ (x : PairRefusal). x.refusal) same) in
    (ap Err refusals, same ∙ ap (λ (x : Refusal). about x key) refusals)

-- and a value stays
pub kept-about : {A : Type 0} (r : Result A Refusal) (s : Result A PairRefusal) (key : Which) →
    MatchResult r (λ x. s ≡ Ok x) (λ f. IsErrAnd s (λ g. g ≡ about f key)) → (x : A) → s ≡ Ok x → r ≡ Ok x
kept-about (Ok x) s key is y e = let same : x ≡ y = cc in ap Ok same
kept-about (Err f) s key is y e =
    let found : s ≡ Err (about f key) = handed-on s is in absurd (let o : ◌≡◌ {A = ℕ} 0 1 = cc in omega arith)

-- one value of a result is one value
pub ok-injective : {A : Type 0} {a b : A} → ◌≡◌ {A = Result A Refusal} (Ok a) (Ok b) → a ≡ b
ok-injective e = cc

-- a result that is no refusal is a value
pub ok-unless : {A : Type 0} (r : Result A Refusal) → ((f : Refusal) → r ≡ Err f → ⊥) → IsOk r
ok-unless (Ok a) none = refl
ok-unless (Err f) none = absurd (none f refl)
