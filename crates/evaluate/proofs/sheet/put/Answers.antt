-- `evaluate::sheet::put` meets its contract: A, B and C, one behind the other.
use Rattle.evaluation.proofs.WordsOnSheet.{three-runs}
use Rattle.evaluate.proofs.sheet.put.Goals as goal

pub returns : goal.returns
returns g c =
    let 𝓢 = g.S.Scalar.elements.scalars in
    let width = g.S.Scalar.lawful.lawful.numbers_width in
    rw (c.store-3.ensures, c.store-2.ensures, c.store.ensures)
    (three-runs 𝓢.width c.args.i c.args.sheet.now _ _ _ (width _) (width _))
