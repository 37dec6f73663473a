-- `morgana::morgana_move` meets its contract: the reply to what the move answers, and the buffer that it leaves.
use mathlib.Core.Path.{ap, ◌∙◌}
use Rattle.quadratic.specs.Quadratic.{quadratic}
use Rattle.editions.proofs.MovedBuffer.{moves}
use Rattle.morgana.specs.Reply.{move_reply}
use Rattle.morgana.proofs.morgana_move.Goals as goal

pub returns : goal.returns
returns c =
    let answered = c.moved.ensures in
    let a = c.args in record { reply = c.of_copied.ensures ∙ ap move_reply answered.answer; buffer = answered.buffer; copy = (answered.copy, moves quadratic a.key.now a.buffer.now) }
