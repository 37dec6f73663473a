-- What evaluate answers over the field of p² (02, E2).
use Rattle.std.specs.Prelude.{Result}
use Rattle.refusal.specs.Outcome.{Outcome, outcome_of}
use Rattle.refusal.specs.declared.Refusal.{Refusal}
use Rattle.quadratic.specs.Parts.{parts}
use Rattle.quadratic.specs.Quadratic.{quadratic}
use Rattle.quadratic.specs.declared.Fp2.{Fp2}
use Rattle.evaluation.specs.Evaluate.{ValuesOf, Counted}
use Rattle.evaluate.specs.declared.Counted.{Counted as OfCall}
use Rattle.evaluate.specs.declared.Values.{Values as Answered}

-- the elements that are answered
abbrev pub values_in : Answered Fp2 → ValuesOf quadratic
values_in values = record { a = parts values.a; b = parts values.b; c = parts values.c }

-- what is answered: the elements and the factors
abbrev pub evaluated_outcome : Result (OfCall Fp2) Refusal → Outcome (Counted quadratic)
evaluated_outcome = outcome_of (λ counted. record { values = values_in counted.values; factors = counted.factors })
