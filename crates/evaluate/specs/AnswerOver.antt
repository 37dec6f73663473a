-- What the calls over any field answer. No public promise over the field of p, nor over that of p², rests on it.
use Rattle.std.specs.Prelude.{Result}
use Rattle.refusal.specs.Outcome.{Outcome, outcome_of}
use Rattle.refusal.specs.declared.Refusal.{Refusal}
use Rattle.scalar.specs.Elements.{Elements}
use Rattle.evaluation.specs.Evaluate.{ValuesOf, Counted}
use Rattle.evaluate.specs.declared.Counted.{Counted as OfCall}
use Rattle.evaluate.specs.declared.Values.{Values as Answered}

-- the elements that are answered
abbrev pub values_of : {E : Type 0} (𝓔 : Elements E) → Answered E → ValuesOf 𝓔.scalars
values_of 𝓔 values = record { a = 𝓔.element values.a; b = 𝓔.element values.b; c = 𝓔.element values.c }

-- the elements and the factors
abbrev pub counted_of : {E : Type 0} (𝓔 : Elements E) → OfCall E → Counted 𝓔.scalars
counted_of 𝓔 counted = record { values = values_of 𝓔 counted.values; factors = counted.factors }

-- what is answered: the elements and the factors
abbrev pub answer_outcome : {E : Type 0} (𝓔 : Elements E) → Result (OfCall E) Refusal → Outcome (Counted 𝓔.scalars)
answer_outcome 𝓔 = outcome_of (counted_of 𝓔)
