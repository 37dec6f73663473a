-- "Same" is not "different", and neither is a refusal.
use Prim.Native.Nat.{ℕ}
use mathlib.Core.Bool.{true, false≢true}
use mathlib.Core.Path.{◌≡◌, refl}
use native.Mathlib.Omega.{arith}
use Rattle.refusal.specs.declared.Which.{Which}
use Rattle.comparison.specs.AgreementBound.{is_same}
use Rattle.comparison.specs.Compare.{Answer, same, different, refused_for}

pub same-not-different : same ≡ different → ⊥
same-not-different e = let o : ◌≡◌ {A = ℕ} 0 1 = cc in omega arith

pub refused-not-same : (which : Which) (number place : ℕ) → refused_for which number place ≡ same → ⊥
refused-not-same which number place e = let o : ◌≡◌ {A = ℕ} 0 1 = cc in omega arith

pub refused-not-different : (which : Which) (number place : ℕ) → refused_for which number place ≡ different → ⊥
refused-not-different which number place e = let o : ◌≡◌ {A = ℕ} 0 1 = cc in omega arith

pub same-only : (answer : Answer) → is_same answer ≡ true → answer ≡ same
unfolding is_same
same-only same e = refl
same-only different e = absurd (false≢true e)
same-only (refused_for which number place) e = absurd (false≢true e)
