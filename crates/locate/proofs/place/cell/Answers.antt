-- `locate::place::cell` meets its contract.
use mathlib.Core.Path.{sym}
use native.Mathlib.Omega.{arith}
use lib.Seq.{length-take-le}
use Rattle.location.proofs.CellRead.{parts-readable, parts-read}
use Rattle.locate.proofs.place.cell.Goals as goal

pub slice_bounds-at-end : goal.slice_bounds-at-end
slice_bounds-at-end c =
    let inside = c.requires.0.is_point.count in
    sym (length-take-le _ _ (omega (arith, inside)))

pub at-requires : goal.at-requires
at-requires c =
    parts-readable _ _ c.args.row_bits c.args.point.now c.args.sheet.now c.requires.0 c.requires.1

pub returns : goal.returns
returns c =
    let args = c.args in
    let answered = c.at.ensures in
    let told = parts-read _ _ args.row_bits args.point.now args.sheet.now _ _ answered.answer answered.sheet in
    record { answer = told.0; sheet = told.1 }
