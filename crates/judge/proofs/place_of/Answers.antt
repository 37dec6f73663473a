-- `judge::place_of` meets its contract: the row is judged before the column.
use mathlib.Core.Path.{sym, ap, ◌∙◌}
use Rattle.refusal.specs.Outcome.{refusal_of}
use Rattle.judge.proofs.JudgementCases.{row-outside, column-outside, both-inside}
use Rattle.judge.proofs.place_of.Goals as goal

pub returns-then-outside : goal.returns-then-outside
returns-then-outside c = ap refusal_of c.new.ensures ∙ sym (row-outside _ _ _ (sym c.outside.ensures ∙ c.if-outside.true))

pub returns-then-outside-2 : goal.returns-then-outside-2
returns-then-outside-2 c =
    ap refusal_of c.new-then-outside-2.ensures
    ∙ sym (column-outside _ _ _ (sym c.outside.ensures ∙ c.if-outside.false)
    (sym c.outside-2.ensures ∙ c.if-outside-2.true))

pub returns : goal.returns
returns c =
    sym (both-inside _ _ _ (sym c.outside.ensures ∙ c.if-outside.false)
    (sym c.outside-2.ensures ∙ c.if-outside-2.false))
