-- `report::lines::refusal` meets its contract: its parts, one behind the other.
use mathlib.Core.Path.{sym}
use native.Mathlib.Omega.{arith}
use Rattle.report.specs.Text.{ascii}
use Rattle.report.proofs.BytesWritten.{begun, more, ended, room-for}
use Rattle.report.proofs.lines.refusal.Goals as goal

pub labelled-requires-2 : goal.labelled-requires-2
labelled-requires-2 c = room-for _ _ _ _ (begun (ascii "refused ") _ c.labelled.ensures) c.requires (omega arith)

pub word-requires : goal.word-requires
word-requires c =
    room-for _ _ _ _ (more _ _ (ascii " at ") _ (begun (ascii "refused ") _ c.labelled.ensures) c.labelled-2.ensures) c.requires (omega arith)

pub returns : goal.returns
returns c =
    rw (sym c.number.ensures)
    (ended _ _ (ascii "\n") (more _ _ (ascii " at ") _ (begun (ascii "refused ") _ c.labelled.ensures) c.labelled-2.ensures) c.word.ensures).appended
