-- An answer is determined by what it says.
use Rattle.std.specs.Prelude.{Result}
use mathlib.Core.Path.{◌≡◌, ap}
use Rattle.refusal.specs.declared.Refusal.{Refusal}
use Rattle.refusal.proofs.Outcomes.{outcome_of-injective}
use Rattle.field.specs.declared.fp.Fp.{Fp}
use Rattle.field.proofs.EqualElements.{fp-equal}
use Rattle.scalar.specs.Elements.{Elements, singles}
use Rattle.evaluation.specs.Evaluate.{ValuesOf, Counted}
use Rattle.evaluate.specs.Answer.{evaluated_outcome}
use Rattle.evaluate.specs.AnswerOver.{values_of, counted_of, answer_outcome}
use Rattle.evaluate.specs.declared.Counted.{Counted as OfCall}
use Rattle.evaluate.specs.declared.Values.{Values as Answered}

-- where the element that a value is determines it
module _ {E : Type 0} (𝓔 : Elements E) (once : (x y : E) → 𝓔.element x ≡ 𝓔.element y → x ≡ y) where
  values-injective : (v w : Answered E) → values_of 𝓔 v ≡ values_of 𝓔 w → v ≡ w
  values-injective v w e =
      let a = once v.a w.a (ap (λ (x : ValuesOf 𝓔.scalars). x.a) e) in
      let b = once v.b w.b (ap (λ (x : ValuesOf 𝓔.scalars). x.b) e) in
      let c = once v.c w.c (ap (λ (x : ValuesOf 𝓔.scalars). x.c) e) in
      λ i. record { a = a i; b = b i; c = c i }

  pub answer-injective : (r s : Result (OfCall E) Refusal) → answer_outcome 𝓔 r ≡ answer_outcome 𝓔 s → r ≡ s
  answer-injective =
      outcome_of-injective (counted_of 𝓔) (λ r s e.
      let values = values-injective r.values s.values (ap (λ (x : Counted 𝓔.scalars). x.values) e) in
      let factors = ap (λ (x : Counted 𝓔.scalars). x.factors) e in
      λ i. record { values = values i; factors = factors i })

pub evaluated-injective : (r s : Result (OfCall Fp) Refusal) → evaluated_outcome r ≡ evaluated_outcome s → r ≡ s
evaluated-injective = answer-injective singles (λ x y e. fp-equal e)
