-- `morgana::morgana_price` meets its contract: the reply to what price answers.
use mathlib.Core.Path.{ap, ◌∙◌}
use Rattle.quadratic.specs.Quadratic.{quadratic}
use Rattle.price.proofs.FactorsArePriced.{factors-priced}
use Rattle.morgana.specs.Reply.{price_reply}
use Rattle.morgana.proofs.morgana_price.Goals as goal

pub returns : goal.returns
returns c =
    let answered = c.price.ensures in
    record { reply = c.of_priced.ensures ∙ ap price_reply answered.answer; factors = (answered.factors, factors-priced _ quadratic) }
