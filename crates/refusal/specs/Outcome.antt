-- What a call answers: the values of its result, or the number and the place of its refusal. The public promises are about that outcome.
use Rattle.std.specs.Prelude.{ℕ, Result, Ok, Err}
use Rattle.refusal.specs.Number.{number_of}
use Rattle.refusal.specs.declared.PairRefusal.{PairRefusal}
use Rattle.refusal.specs.declared.Reason.{Reason}
use Rattle.refusal.specs.declared.Refusal.{Refusal}
use Rattle.refusal.specs.declared.Which.{Which}

-- the values of a call's result, or the number and the place of its refusal
pub data Outcome (A : Type 0) : Type 0 where
  given : A → Outcome A
  refused : ℕ → ℕ → Outcome A

-- the refusal for a reason at a place
abbrev pub refuse : {A : Type 0} → Reason → ℕ → Outcome A
refuse reason place = refused (number_of reason) place

-- what a refusal says
abbrev pub refusal_of : {A : Type 0} → Refusal → Outcome A
refusal_of r = refuse r.reason r.place

-- a refusal by a call that takes two keys, about one of them or about neither
abbrev pub about : Refusal → Which → PairRefusal
about refusal key = record { key = key; refusal = refusal }

-- what a result says, where each of its values is seen as `said` has it
abbrev pub outcome_of : {A B : Type 0} → (A → B) → Result A Refusal → Outcome B
outcome_of said (Ok value) = given (said value)
outcome_of said (Err r) = refusal_of r

-- the same of values that are seen as they are
abbrev pub outcome : {A : Type 0} → Result A Refusal → Outcome A
outcome = outcome_of (λ value. value)

-- a judgement, and behind it, where nothing is refused, the next
abbrev pub and_then : {A B : Type 0} → Outcome A → (A → Outcome B) → Outcome B
and_then (given values) next = next values
and_then (refused number place) next = refused number place
