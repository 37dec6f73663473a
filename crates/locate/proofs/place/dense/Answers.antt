-- `locate::place::dense` meets its contract: the key is evaluated at the bits that it uses.
use mathlib.Core.Path.{sym}
use lib.Seq.{length-take-le}
use Rattle.location.proofs.KeyAtBits.{own-left, held-dense}
use Rattle.locate.proofs.place.dense.Goals as goal

pub slice_bounds-evaluate-end : goal.slice_bounds-evaluate-end
slice_bounds-evaluate-end c =
    let serves = c.requires.serves in
    sym (length-take-le _ _ serves.rows_given.enough)

pub slice_bounds-evaluate-end-2 : goal.slice_bounds-evaluate-end-2
slice_bounds-evaluate-end-2 c =
    let serves = c.requires.serves in
    sym (length-take-le _ _ serves.columns_given.enough)

pub returns : goal.returns
returns c =
    let evaluated = c.evaluate-evaluated.ensures in record {
      values = held-dense _ _ c.requires.key_value _ _ _ _ c.number-row.ensures c.number-column.ensures c.args.sheet.now
          c.requires.serves c.requires.below.0 c.requires.below.1 _ evaluated.answer _ c.held.ensures;
      sheet = own-left _ _ c.requires.key_value _ _ c.args.sheet.now _ evaluated.sheet;
    }
