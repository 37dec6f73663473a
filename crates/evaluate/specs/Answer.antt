-- What evaluate and cell answer.
use Rattle.std.specs.Prelude.{Result}
use Rattle.refusal.specs.Outcome.{Outcome, outcome_of}
use Rattle.refusal.specs.declared.Refusal.{Refusal}
use Rattle.field.specs.Scalars.{prime}
use Rattle.field.specs.declared.fp.Fp.{Fp}
use Rattle.arrays.specs.Arrays.{Values}
use Rattle.evaluation.specs.Evaluate.{Counted}
use Rattle.evaluate.specs.declared.Counted.{Counted as OfCall}
use Rattle.evaluate.specs.declared.Values.{Values as Answered}

-- the numbers that are answered
abbrev pub values_in : Answered Fp → Values
values_in values = record { a = values.a.number; b = values.b.number; c = values.c.number }

-- what is answered: the numbers and the factors
abbrev pub evaluated_outcome : Result (OfCall Fp) Refusal → Outcome (Counted prime)
evaluated_outcome = outcome_of (λ counted. record { values = values_in counted.values; factors = counted.factors })
