-- `report::text::Text::word` meets its contract: the bytes are copied.
use mathlib.Core.Path.{refl}
use native.Mathlib.Omega.{arith}
use Rattle.report.proofs.BytesWritten.{copied}
use Rattle.report.proofs.text.Text.word.Goals as goal

pub returns : goal.returns
returns c =
    record {
      same = refl;
      wrote = record { fits = c.requires; text = copied _ _ _ _ _ c.requires c.copy_from_slice.ensures.after (omega arith); behind = refl };
    }
