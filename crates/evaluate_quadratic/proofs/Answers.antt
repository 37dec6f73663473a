-- An answer is determined by what it says.
use Rattle.std.specs.Prelude.{Result}
use mathlib.Core.Path.{◌≡◌, ap}
use Rattle.refusal.specs.declared.Refusal.{Refusal}
use Rattle.field.proofs.EqualElements.{fp-equal}
use Rattle.quadratic.specs.Fp2.{TwoParts}
use Rattle.quadratic.specs.Parts.{parts}
use Rattle.quadratic.specs.declared.Fp2.{Fp2}
use Rattle.scalar.specs.Elements.{doubles}
use Rattle.evaluate.specs.declared.Counted.{Counted as OfCall}
use Rattle.evaluate.proofs.Answers.{answer-injective}
use Rattle.evaluate_quadratic.specs.Answer.{evaluated_outcome}

parts-injective : (x y : Fp2) → parts x ≡ parts y → x ≡ y
parts-injective x y e =
    let u = fp-equal {x = x.u} {y = y.u} (ap (λ (r : TwoParts). r.u) e) in
    let v = fp-equal {x = x.v} {y = y.v} (ap (λ (r : TwoParts). r.v) e) in
    λ i. record { u = u i; v = v i }

pub evaluated-injective : (r s : Result (OfCall Fp2) Refusal) → evaluated_outcome r ≡ evaluated_outcome s → r ≡ s
evaluated-injective = answer-injective doubles parts-injective
