use Prim.Native.Nat.{ℕ, ◌+◌}
use mathlib.Core.Path.{sym, ap, ◌∙◌}
use native.Mathlib.Omega.{arith}
use lib.ListN.{length}
use Rattle.refusal.specs.Outcome.{refuse, refusal_of}
use Rattle.refusal.specs.declared.Reason.{Reason}
use Rattle.judge.proofs.JudgementCases.{row-count-wrong, column-count-wrong, row-over, column-over, point-given}
use Rattle.judge.proofs.point_of.Goals as goal

pub returns-then-row_count-width : goal.returns-then-row_count-width
returns-then-row_count-width c = ap refusal_of c.new.ensures ∙ sym (row-count-wrong _ _ _ _ c.if-row_count-width.true)

pub returns-then-column_count-width : goal.returns-then-column_count-width
returns-then-column_count-width c =
    ap refusal_of c.new-then-column_count-width.ensures
    ∙ sym (column-count-wrong _ _ _ _ c.if-row_count-width.false c.if-column_count-width.true)

pub returns-in-Some : goal.returns-in-Some
returns-in-Some c =
    let found = c.in-Some.ensures in
    ap refusal_of c.new-in-Some.ensures ∙ ap (refuse Reason.CoordinateTooGreat) found.1
    ∙ sym (row-over _ _ _ _ c.if-row_count-width.false c.if-column_count-width.false (rw found.1 at found.0))

pub returns-in-Some-first_over : goal.returns-in-Some-first_over
returns-in-Some-first_over c =
    let found = c.in-Some-first_over.ensures in
    ap refusal_of c.new-in-Some-first_over.ensures
    ∙ ap (λ (j : ℕ). refuse Reason.CoordinateTooGreat (length c.args.rows.now + j)) found.1
    ∙ sym (column-over _ _ _ _ c.if-row_count-width.false c.if-column_count-width.false
    (omega (arith, c.in_default.ensures)) (rw found.1 at found.0))

pub returns : goal.returns
returns c =
    sym (point-given _ _ _ _ c.if-row_count-width.false c.if-column_count-width.false
    (omega (arith, c.in_default.ensures)) (omega (arith, c.in_default-first_over.ensures)))
