-- What a verdict says of the rules that a record was held to.
use Rattle.std.specs.Prelude.{is_ok, is_err}
use Rattle.std.specs.Prelude.{Result, Ok, Err}
use Prim.Native.Nat.{ℕ}
use mathlib.Core.Bool.{Bool, true, false}
use mathlib.Core.List.{List, [], ◌∷◌}
use mathlib.Core.Path.{◌≡◌, refl, sym, ap, ◌∙◌}
use native.Mathlib.Omega.{arith}
use borrow.Author.Tests.{eqb-false}
use Rattle.refusal.specs.declared.Reason.{Reason}
use Rattle.refusal.specs.declared.Refusal.{Refusal}
use Rattle.rules.specs.Inner.{unless_broken, held_to, AllKept}
use Rattle.rules.specs.Rules.{Rule}

refused-not-kept : {A : Type 0} (f : Refusal) → ◌≡◌ {A = Result (Unit {0}) Refusal} (Err f) (Ok tt) → A
refused-not-kept f e = let o : ◌≡◌ {A = ℕ} 0 1 = cc in absurd (omega arith)

pub unless-kept : (v : Result (Unit {0}) Refusal) (reason : Reason) (broken : Bool) (place : ℕ) → unless_broken v reason broken place ≡ (Ok tt) →
    (v ≡ (Ok tt)) × (broken ≡ false)
unless-kept (Err f) reason broken place e = refused-not-kept f e
unless-kept (Ok _) reason true place e = refused-not-kept _ e
unless-kept (Ok _) reason false place e = (refl, refl)

pub held_kept : (v : Result (Unit {0}) Refusal) (place : ℕ) (rules : List Rule) → held_to v place rules ≡ (Ok tt) →
    (v ≡ (Ok tt)) × AllKept rules
held_kept v place [] e = (e, tt)
held_kept v place (rule ∷ rules) e =
    let later = held_kept (unless_broken v rule.reason rule.broken place) place rules e in
    let this = unless-kept v rule.reason rule.broken place later.0 in
    (this.0, (this.1, later.1))

-- rules that are all kept change no verdict
pub kept-held : (v : Result (Unit {0}) Refusal) (place : ℕ) (rules : List Rule) → AllKept rules → v ≡ (Ok tt) → held_to v place rules ≡ (Ok tt)
kept-held v place [] kept e = e
kept-held v place (rule ∷ rules) kept e = rw (e, kept.0) (kept-held (Ok tt) place rules kept.1 refl)

-- ---- whether a verdict is that the rules are kept

pub is-kept : (v : Result (Unit {0}) Refusal) → is_ok v ≡ true → v ≡ (Ok tt)
is-kept (Err f) e = absurd (eqb-false 0 0 (sym e) refl)
is-kept (Ok _) e = refl

-- what the answer whether a verdict refuses says of the rules
module _ (place : ℕ) (rules : List Rule) (v : Result (Unit {0}) Refusal) (refuses : Bool) (is : v ≡ held_to (Ok tt) place rules)
    (tells : refuses ≡ is_err v) where
  pub told-kept : refuses ≡ false → AllKept rules
  told-kept e = (held_kept (Ok tt) place rules (sym is ∙ kept v (sym tells ∙ e))).1
    where
      kept : (v : Result (Unit {0}) Refusal) → is_err v ≡ false → v ≡ (Ok tt)
      kept (Err f) e = absurd (eqb-false 0 0 e refl)
      kept (Ok _) e = refl

  pub told-broken : refuses ≡ true → is_ok (held_to (Ok tt) place rules) ≡ false
  told-broken e = ap is_ok (sym is) ∙ broken v (sym tells ∙ e)
    where
      broken : (v : Result (Unit {0}) Refusal) → is_err v ≡ true → is_ok v ≡ false
      broken (Err f) e = refl
      broken (Ok _) e = absurd (eqb-false 0 0 (sym e) refl)
