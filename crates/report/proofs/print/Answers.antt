-- `report::print` meets its contract: 42, 41, then evaluate.
use mathlib.Core.Path.{refl, sym, ap, ◌∙◌}
use native.Mathlib.Omega.{arith}
use Rattle.report.specs.Printed.{text_of}
use Rattle.report.proofs.PrintedCases.{too_long, too_short, whole}
use Rattle.report.proofs.TextPromises.{as_read}
use Rattle.report.proofs.print.Goals as goal

pub returns-then-length-gt65536 : goal.returns-then-length-gt65536
returns-then-length-gt65536 c = rw (ap text_of (too_long c.args.input.now (omega arith))) c.refused.ensures

pub returns-then-length-lt2 : goal.returns-then-length-lt2
returns-then-length-lt2 c = rw (ap text_of (too_short c.args.input.now (omega arith) (omega arith))) c.refused-then-length-lt2.ensures

pub returns-then-length-key_at : goal.returns-then-length-key_at
returns-then-length-key_at c =
    rw (ap text_of (too_short c.args.input.now (omega arith) (omega (arith, c.byte-column_count.ensures.0, c.byte-row_count.ensures.0))))
    c.refused-then-length-key_at.ensures

pub returns : goal.returns
returns c =
    let byte2 = c.byte-column_count.ensures in
    let byte = c.byte-row_count.ensures in
    rw (ap text_of (whole c.args.input.now (omega arith) (omega (arith, byte2.0, byte.0))
    ∙ sym (as_read _ _ _ _ _ _ _ _ byte.0 byte2.0 refl (omega (arith, byte.1)) (omega (arith, byte2.1))
    c.numbers.ensures
    c.numbers-2.ensures)))
    c.evaluated.ensures
