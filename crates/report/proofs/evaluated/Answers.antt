-- `report::evaluated` meets its contract: a refusal of check or of evaluate, or the lines of the key and its arrays.
use mathlib.Core.Path.{◌≡◌, sym, ap, ◌∙◌}
use native.Mathlib.Omega.{arith}
use Rattle.refusal.specs.Outcome.{given}
use Rattle.key.specs.Check.{checked_outcome, checked_key}
use Rattle.evaluation.proofs.EvaluatePromises.{at_most_1024}
use Rattle.report.proofs.BytesWritten.{appended-more, room-behind}
use Rattle.report.proofs.PrintedCases.{evaluate-given}
use Rattle.report.proofs.evaluated.Goals as goal
use Rattle.report.proofs.evaluated.Goals.{In-Ok}

-- where the key is accepted, and, behind evaluate, where its values are known
accepted : (c : In-Ok) → checked_key c.args.key.now ≡ given c.in-Ok.counts
accepted c = sym c.check.ensures.answer ∙ ap checked_outcome c.in-Ok.is

pub arrays-requires : goal.arrays-requires
arrays-requires c =
    let few = at_most_1024 _ _ (accepted (goal.at.arrays-requires c).In-Ok) in
    record {
      count_in_bounds = omega (arith, few);
      room = room-behind _ 168 86184 _ c.key.ensures.line c.key.ensures.few c.requires (omega (arith, few));
    }

pub returns : goal.returns
returns c =
    let answered = c.evaluate.ensures in
    rw (evaluate-given _ _ _ _ (accepted (goal.at.returns c).In-Ok) _ _ _ answered.answer answered.sheet c.in_default.is)
    (appended-more _ _ c.key.ensures.line c.arrays.ensures)
