-- `report::text::Text::labelled` meets its contract: the label, and behind it the fewest digits that hold the number.
use mathlib.Core.Path.{◌∙◌}
use native.Mathlib.Omega.{arith}
use Rattle.report.proofs.BytesWritten.{appended-more, wrote-length}
use Rattle.report.proofs.Decimals.{decimal-is, digits-most}
use Rattle.report.proofs.text.Text.labelled.Goals as goal

pub word-requires-2 : goal.word-requires-2
word-requires-2 c =
    let wrote = c.word.ensures.wrote in
    let decimal = c.decimal-count.ensures in
    omega (
      arith,
      wrote.behind,
      wrote-length _ _ _ _ _ wrote,
      decimal.in_bounds,
      digits-most c.args.number _ (omega arith) decimal.len,
      c.requires,
    )

pub returns : goal.returns
returns c =
    let decimal = c.decimal-count.ensures in
    appended-more _ _ c.word.ensures
    (rw (decimal.digits ∙ decimal-is c.args.number _ (omega arith) decimal.len) at c.word-2.ensures)
