-- `report::lines::key` meets its contract: its parts, one behind the other.
use native.Mathlib.Omega.{arith}
use Rattle.report.specs.Text.{ascii}
use Rattle.report.proofs.BytesWritten.{begun, more, ended, room-for}
use Rattle.report.proofs.lines.key.Goals as goal

pub labelled-requires-2 : goal.labelled-requires-2
labelled-requires-2 c =
    room-for _ _ _ _
    (begun (ascii "key ") _ c.labelled.ensures)
    c.requires (omega arith)

pub labelled-requires-3 : goal.labelled-requires-3
labelled-requires-3 c =
    room-for _ _ _ _
    (more _ _ (ascii " bytes arrays ") _
    (begun (ascii "key ") _ c.labelled.ensures)
    c.labelled-2.ensures)
    c.requires (omega arith)

pub labelled-requires-4 : goal.labelled-requires-4
labelled-requires-4 c =
    room-for _ _ _ _
    (more _ _ (ascii " cells ") _
    (more _ _ (ascii " bytes arrays ") _
    (begun (ascii "key ") _ c.labelled.ensures)
    c.labelled-2.ensures)
    c.labelled-3.ensures)
    c.requires (omega arith)

pub labelled-requires-5 : goal.labelled-requires-5
labelled-requires-5 c =
    room-for _ _ _ _
    (more _ _ (ascii " calls ") _
    (more _ _ (ascii " cells ") _
    (more _ _ (ascii " bytes arrays ") _
    (begun (ascii "key ") _ c.labelled.ensures)
    c.labelled-2.ensures)
    c.labelled-3.ensures)
    c.labelled-4.ensures)
    c.requires (omega arith)

pub labelled-requires-6 : goal.labelled-requires-6
labelled-requires-6 c =
    room-for _ _ _ _
    (more _ _ (ascii " rows ") _
    (more _ _ (ascii " calls ") _
    (more _ _ (ascii " cells ") _
    (more _ _ (ascii " bytes arrays ") _
    (begun (ascii "key ") _ c.labelled.ensures)
    c.labelled-2.ensures)
    c.labelled-3.ensures)
    c.labelled-4.ensures)
    c.labelled-5.ensures)
    c.requires (omega arith)

pub word-requires : goal.word-requires
word-requires c =
    room-for _ _ _ _
    (more _ _ (ascii " columns ") _
    (more _ _ (ascii " rows ") _
    (more _ _ (ascii " calls ") _
    (more _ _ (ascii " cells ") _
    (more _ _ (ascii " bytes arrays ") _
    (begun (ascii "key ") _ c.labelled.ensures)
    c.labelled-2.ensures)
    c.labelled-3.ensures)
    c.labelled-4.ensures)
    c.labelled-5.ensures)
    c.labelled-6.ensures)
    c.requires (omega arith)

pub returns : goal.returns
returns c =
    let line = ended _ _ (ascii "\n")
    (more _ _ (ascii " columns ") _
    (more _ _ (ascii " rows ") _
    (more _ _ (ascii " calls ") _
    (more _ _ (ascii " cells ") _
    (more _ _ (ascii " bytes arrays ") _
    (begun (ascii "key ") _ c.labelled.ensures)
    c.labelled-2.ensures)
    c.labelled-3.ensures)
    c.labelled-4.ensures)
    c.labelled-5.ensures)
    c.labelled-6.ensures)
    c.word.ensures in
    record { line = line.appended; few = line.few }
