-- `morgana::morgana_shorter` meets its contract: the reply to what `shorter::which` answers, and the sheet that it leaves.
use mathlib.Core.Path.{ap, ◌∙◌}
use lib.Dec.{ltb}
use Rattle.refusal.specs.declared.Which.{Which}
use Rattle.shorter.proofs.HandedBack.{empty-told}
use Rattle.morgana.specs.Reply.{shorter_reply}
use Rattle.morgana.specs.declared.ShorterReply.{ShorterReply}
use Rattle.morgana.proofs.morgana_shorter.Goals as goal

pub returns : goal.returns
returns c =
    let lent = c.args in
    let answered = c.which-which.ensures in
    let reply = c.of_shorter.ensures ∙ ap (λ (w : Which). shorter_reply w lent.first.now lent.second.now) answered.key in
    let told = empty-told lent.first.now lent.second.now _ _ lent.sheet.now in
    record { reply = reply; sheet = answered.sheet; told = ap (λ (x : ShorterReply). ltb 0 x.length) reply ∙ told; agreement = answered.agreement }
