-- `morgana::morgana_check` meets its contract: the reply to what check answers, whose counts fit 32 bits.
use mathlib.Core.Path.{◌≡◌, sym, ap, ◌∙◌}
use native.Mathlib.Omega.{arith}
use Rattle.refusal.specs.Outcome.{given}
use Rattle.key.specs.Check.{checked_outcome, checked_key}
use Rattle.key.proofs.CountBounds.{cells-few, calls-few}
use Rattle.evaluation.proofs.EvaluatePromises.{at_most_1024}
use Rattle.morgana.specs.Reply.{check_reply}
use Rattle.morgana.proofs.morgana_check.Goals as goal
use Rattle.morgana.proofs.morgana_check.Goals.{In-Ok}

-- the key is accepted where its counts are known
accepted : (c : In-Ok) → checked_key c.args.key.now ≡ given c.in-Ok.counts
accepted c = sym c.check.ensures.answer ∙ ap checked_outcome c.in-Ok.is

pub overflow_cast-arrays : goal.overflow_cast-arrays
overflow_cast-arrays c = omega (arith, at_most_1024 _ _ (accepted (goal.at.overflow_cast-arrays c).In-Ok))

pub overflow_cast-cells : goal.overflow_cast-cells
overflow_cast-cells c = omega (arith, cells-few _ _ (accepted (goal.at.overflow_cast-cells c).In-Ok))

pub overflow_cast-calls : goal.overflow_cast-calls
overflow_cast-calls c = omega (arith, calls-few _ _ (accepted (goal.at.overflow_cast-calls c).In-Ok))

pub returns-in-Ok : goal.returns-in-Ok
returns-in-Ok c = record { reply = ap check_reply (sym (accepted (goal.at.returns-in-Ok c).In-Ok)) }

pub returns-in-Err : goal.returns-in-Err
returns-in-Err c =
    rw c.number.ensures
    (record { reply = ap check_reply (sym (ap checked_outcome c.in-Err.is) ∙ c.check.ensures.answer) })
