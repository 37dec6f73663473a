-- Holding a record to its rules one by one, as the code does, gives what the definition says of it.
use Rattle.refusal.specs.declared.Refusal.{Refusal}
use Rattle.std.specs.Prelude.{Result, Ok, Err}
use Prim.Native.Nat.{ℕ}
use mathlib.Core.Bool.{Bool, true, false, cond}
use mathlib.Core.List.{List, [], ◌∷◌}
use mathlib.Core.Path.{◌≡◌, refl, ◌∙◌}
use Rattle.refusal.specs.Outcome.{Outcome, refuse, refusal_of}
use Rattle.refusal.specs.declared.Reason.{Reason}
use Rattle.rules.specs.Inner.{unless_broken, held_to}
use Rattle.rules.specs.Rules.{Rule}
use Rattle.key.specs.Check.{first_broken}

-- what a verdict on a record means for the answer, if `rest` is what the later records say
abbrev pub settled : {A : Type 0} → (Result (Unit {0}) Refusal) → Outcome A → Outcome A
settled (Err f) rest = refusal_of f
settled (Ok _) rest = rest

unless-settled : {A : Type 0} (v : Result (Unit {0}) Refusal) (reason : Reason) (broken : Bool) (place : ℕ) (rest : Outcome A) →
    settled (unless_broken v reason broken place) rest ≡ settled v (cond broken (refuse reason place) rest)
unless-settled (Err f) reason broken place rest = refl
unless-settled (Ok _) reason true place rest = refl
unless-settled (Ok _) reason false place rest = refl

pub held-settled : {A : Type 0} (v : Result (Unit {0}) Refusal) (place : ℕ) (rules : List Rule) (rest : Outcome A) →
    settled (held_to v place rules) rest ≡ settled v (first_broken place rules rest)
unfolding first_broken
held-settled v place [] rest = refl
held-settled v place (rule ∷ rules) rest =
    held-settled (unless_broken v rule.reason rule.broken place) place rules rest
    ∙ unless-settled v rule.reason rule.broken place (first_broken place rules rest)
