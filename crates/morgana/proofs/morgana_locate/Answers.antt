-- `morgana::morgana_locate` meets its contract: the reply to what locate answers, and the sheet that it leaves.
use mathlib.Core.Path.{ap, subst, ◌∙◌}
use Rattle.location.specs.Cell.{Certain}
use Rattle.morgana.specs.Reply.{locate_reply}
use Rattle.morgana.proofs.morgana_locate.Goals as goal

pub returns : goal.returns
returns c =
    let answered = c.locate.ensures in
    record { reply = c.of_located.ensures ∙ ap locate_reply answered.answer; sheet = answered.sheet; certain = subst (Certain _ _) answered.answer answered.certain }
