-- `morgana::morgana_compare_quadratic` meets its contract: the reply to what compare answers over the field of p², and the sheet that it
-- leaves.
use mathlib.Core.Path.{ap₂, ◌∙◌}
use Rattle.compare.specs.Answer.{compared_answer}
use Rattle.morgana.specs.Reply.{compare_reply}
use Rattle.morgana.proofs.Replies.{limit-told}
use Rattle.morgana.proofs.morgana_compare_quadratic.Goals as goal

pub returns : goal.returns
returns c =
    let answered = c.compare.ensures in
    let answer = compared_answer c.compare.result in record { reply = c.of_compared.ensures ∙ ap₂ compare_reply answered.answer answered.factors; sheet = answered.sheet; agreement = answered.agreement; limit = limit-told _ _ _ answer _ c.of_compared.ensures answered.limit }
