-- `editions::moved` meets its contract: check's refusal, or what is answered for an accepted key.
use mathlib.Core.Path.{sym, ap, ◌∙◌}
use Rattle.field.specs.Scalars.{prime}
use Rattle.refusal.proofs.Outcomes.{handed-on}
use Rattle.key.specs.Check.{checked_outcome}
use Rattle.editions.specs.Move.{copied_outcome}
use Rattle.editions.proofs.MovedBuffer.{moves}
use Rattle.editions.proofs.MovingPromises.{key-promise}
use Rattle.editions.proofs.moved.Goals as goal

pub returns-in_err-counts : goal.returns-in_err-counts
returns-in_err-counts c =
    let a = c.args in
    let promise = key-promise _ _ _ _ (sym c.check.ensures.answer ∙ ap checked_outcome c.in_err-counts.was)
    (ap copied_outcome (handed-on _ c.from_residual.ensures.1)) in
    record { answer = promise.0; buffer = promise.1; copy = moves prime a.key.now a.buffer.now }

pub accepted-requires : goal.accepted-requires
accepted-requires c = sym c.check.ensures.answer ∙ ap checked_outcome c.in_ok-counts.was

pub returns : goal.returns
returns c =
    let a = c.args in
    let answered = c.accepted.ensures in
    record { answer = answered.answer; buffer = answered.buffer; copy = moves prime a.key.now a.buffer.now }
