-- What an answer says determines it.
use Rattle.std.specs.Prelude.{Result}
use mathlib.Core.Path.{◌≡◌}
use Rattle.refusal.specs.declared.Refusal.{Refusal}
use Rattle.refusal.proofs.Outcomes.{outcome_of-injective}
use Rattle.field.specs.Answer.{answer_outcome}
use Rattle.field.specs.declared.fp.Fp.{Fp}
use Rattle.field.proofs.EqualElements.{fp-equal}

pub answer-injective : (r s : Result Fp Refusal) → answer_outcome r ≡ answer_outcome s → r ≡ s
answer-injective = outcome_of-injective (λ x. x.number) (λ x y e. fp-equal e)
