-- `morgana::morgana_cell` meets its contract: the reply to what cell answers, and the sheet that it leaves.
use mathlib.Core.Path.{ap, ◌∙◌}
use Rattle.morgana.specs.Reply.{evaluate_reply}
use Rattle.morgana.proofs.morgana_cell.Goals as goal

pub returns : goal.returns
returns c =
    let answered = c.cell.ensures in
    record { reply = c.of_evaluated.ensures ∙ ap evaluate_reply answered.answer; sheet = answered.sheet; limit = answered.limit }
