-- `judge::sheet_of` meets its contract: the places are counted.
use mathlib.Core.Path.{sym, ap, ◌∙◌}
use Rattle.refusal.specs.Outcome.{refusal_of}
use Rattle.judge.proofs.JudgementCases.{sheet-short, sheet-enough}
use Rattle.judge.proofs.sheet_of.Goals as goal

pub returns-then-places-needed : goal.returns-then-places-needed
returns-then-places-needed c = ap refusal_of c.new.ensures ∙ sym (sheet-short _ _ _ c.if-places-needed.true)

pub returns : goal.returns
returns c = sym (sheet-enough _ _ _ c.if-places-needed.false)
