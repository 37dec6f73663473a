-- `evaluate::entry::add_weighed` meets its contract: A, B and C, each times the weight.
use mathlib.Core.Path.{refl}
use Rattle.evaluate.specs.AnswerOver.{values_of}
use Rattle.evaluate.proofs.UnreducedSums.{grown}
use Rattle.evaluate.proofs.entry.add_weighed.Goals as goal

pub returns : goal.returns
returns g c =
    grown g.S.Scalar.elements g.S.Scalar.sum g.S.Scalar.size c.args.sums (values_of g.S.Scalar.elements c.args.values)
    (g.S.Scalar.multiplier c.args.weight) c.args.factors _
    (c.plus.ensures.added, c.plus.ensures.little) (c.plus-2.ensures.added, c.plus-2.ensures.little)
    (c.plus-3.ensures.added, c.plus-3.ensures.little) refl c.requires.few
