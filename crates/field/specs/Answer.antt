-- What the public calls on two numbers answer (01, 'The field', and number 34 of 'Who can cause a refusal').
use Rattle.std.specs.Prelude.{ℕ, cond, leb, Result}
use Rattle.refusal.specs.Outcome.{Outcome, given, refuse, outcome_of}
use Rattle.refusal.specs.declared.Reason.{Reason}
use Rattle.refusal.specs.declared.Refusal.{Refusal}
use Rattle.field.specs.Fp.{p}
use Rattle.field.specs.declared.fp.Fp.{Fp}

-- what is answered: the element's number
abbrev pub answer_outcome : Result Fp Refusal → Outcome ℕ
answer_outcome = outcome_of (λ x. x.number)

-- an operand p or more is refused with its place, the first before the second; else the operation's number
unfoldable pub operated : (ℕ → ℕ → ℕ) → ℕ → ℕ → Outcome ℕ
operated op a b =
    cond (leb p a) (refuse Reason.OperandTooGreat 0)
    (cond (leb p b) (refuse Reason.OperandTooGreat 1)
    (given (op a b)))
