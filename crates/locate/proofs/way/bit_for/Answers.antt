-- `locate::way::bit_for` meets its contract.
use mathlib.Core.Path.{sym, ap, ◌∙◌}
use lib.Seq.{length-take-le}
use Rattle.comparison.specs.AgreementBound.{is_same}
use Rattle.compare.specs.Answer.{compared_answer, likeness_answer}
use Rattle.location.proofs.WayOnSheet.{bit-told}
use Rattle.locate.proofs.way.bit_for.Goals as goal

pub slice_bounds-compare-end : goal.slice_bounds-compare-end
slice_bounds-compare-end c =
    sym (length-take-le _ _ c.requires)

pub returns-in-Same : goal.returns-in-Same
unfolding is_same
returns-in-Same c =
    let compared = c.compare.ensures in
    let args = c.args in
    let told = bit-told _ _ args.row_bits args.point.now _ _ _ _ (sym (ap compared_answer c.in-Ok.is ∙ ap likeness_answer c.in-Same.is)) compared.answer
    compared.sheet in
    record { bit = told.0; sheet = told.1 }

pub returns-in-Different : goal.returns-in-Different
unfolding is_same
returns-in-Different c =
    let compared = c.compare.ensures in
    let args = c.args in
    let told = bit-told _ _ args.row_bits args.point.now _ _ _ _ (sym (ap compared_answer c.in-Ok.is ∙ ap likeness_answer c.in-Different.is)) compared.answer
    compared.sheet in
    record { bit = told.0; sheet = told.1 }

pub returns-in-Err : goal.returns-in-Err
unfolding is_same
returns-in-Err c =
    let compared = c.compare.ensures in
    let args = c.args in
    let told = bit-told _ _ args.row_bits args.point.now _ _ _ _ (sym (ap compared_answer c.in-Err.is)) compared.answer
    compared.sheet in
    record { bit = told.0; sheet = told.1 }
