-- `morgana::morgana_evaluate_quadratic` meets its contract: the reply to what evaluate answers over the field of p², and the sheet that it
-- leaves.
use mathlib.Core.Path.{ap, ◌∙◌}
use Rattle.morgana.specs.Reply.{quadratic_reply}
use Rattle.morgana.proofs.morgana_evaluate_quadratic.Goals as goal

pub returns : goal.returns
returns c =
    let answered = c.evaluate.ensures in
    record { reply = c.of_quadratic.ensures ∙ ap quadratic_reply answered.answer; sheet = answered.sheet; limit = answered.limit }
