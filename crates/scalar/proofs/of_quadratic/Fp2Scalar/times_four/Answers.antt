-- `scalar::of_quadratic::Fp2Scalar::times_four` meets its contract: one factor after the other.
use mathlib.Core.Path.{ap, ◌∙◌}
use Rattle.quadratic.specs.Fp2.{TwoParts, fp2}
use Rattle.quadratic.specs.Parts.{parts}
use Rattle.quadratic.proofs.Fp2Field.{fp2-ring}
use Rattle.scalar.proofs.FourFactors.{four-at-once}
use Rattle.scalar.proofs.of_quadratic.Fp2Scalar.times_four.Goals as goal

pub returns : goal.returns
returns c =
    c.times-4.ensures
    ∙ ap (λ (x : TwoParts). fp2.mul x (parts c.args.four))
    (c.times-3.ensures
    ∙ ap (λ (x : TwoParts). fp2.mul x (parts c.args.three))
    (c.times-2.ensures ∙ ap (λ (x : TwoParts). fp2.mul x (parts c.args.two)) c.times.ensures))
    ∙ four-at-once fp2 fp2-ring _ _ _ _ _
