-- An answer is determined by what it says.
use Rattle.std.specs.Prelude.{Result, Ok, Err}
use Prim.Native.Nat.{ℕ}
use mathlib.Core.Path.{◌≡◌, refl, sym}
use native.Mathlib.Omega.{arith}
use Rattle.refusal.specs.Outcome.{refusal_of}
use Rattle.refusal.specs.declared.PairRefusal.{PairRefusal}
use Rattle.refusal.specs.declared.Which.{Which}
use Rattle.refusal.proofs.Outcomes.{refusal-injective}
use Rattle.comparison.specs.Compare.{refused_for}
use Rattle.compare.specs.Answer.{likeness_answer, compared_answer, compared_factors}
use Rattle.compare.specs.declared.Compared.{Compared}
use Rattle.compare.specs.declared.Likeness.{Likeness}

likeness-injective : (l m : Likeness) → likeness_answer l ≡ likeness_answer m → l ≡ m
likeness-injective Likeness.Same Likeness.Same e = refl
likeness-injective Likeness.Same Likeness.Different e = let o : ◌≡◌ {A = ℕ} 0 1 = cc in absurd (omega arith)
likeness-injective Likeness.Different Likeness.Same e = let o : ◌≡◌ {A = ℕ} 0 1 = cc in absurd (omega arith)
likeness-injective Likeness.Different Likeness.Different e = refl

likeness-not-refused : {A : Type 0} (l : Likeness) (key : Which) (number place : ℕ) → likeness_answer l ≡ refused_for key number place → A
likeness-not-refused Likeness.Same key number place e = let o : ◌≡◌ {A = ℕ} 0 1 = cc in absurd (omega arith)
likeness-not-refused Likeness.Different key number place e = let o : ◌≡◌ {A = ℕ} 0 1 = cc in absurd (omega arith)

pub compared-injective : (r s : Result Compared PairRefusal) → compared_answer r ≡ compared_answer s → compared_factors r ≡ compared_factors s →
    r ≡ s
compared-injective (Ok r) (Ok s) e f =
    let likeness = likeness-injective r.likeness s.likeness e in λ i. Ok (record { likeness = likeness i; factors = f i })
compared-injective (Ok r) (Err h) e f = likeness-not-refused r.likeness _ _ _ e
compared-injective (Err g) (Ok s) e f = likeness-not-refused s.likeness _ _ _ (sym e)
compared-injective (Err g) (Err h) e f =
    let key : g.key ≡ h.key = cc in
    let said : refusal_of {A = ℕ} g.refusal ≡ refusal_of h.refusal = cc in
    let refusal = refusal-injective g.refusal h.refusal said in
    λ i. Err (record { key = key i; refusal = refusal i })
