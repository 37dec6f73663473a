-- `locate::place::held` meets its contract.
use Rattle.refusal.specs.declared.Refusal.{Refusal}
use Rattle.std.specs.Prelude.{Result}
use mathlib.Core.Path.{sym, ap, ◌∙◌}
use Rattle.field.specs.declared.fp.Fp.{Fp}
use Rattle.evaluate.specs.Answer.{evaluated_outcome}
use Rattle.evaluate.specs.declared.Counted.{Counted as OfCall}
use Rattle.location.specs.Inner.{values_of}
use Rattle.location.proofs.KeyAtBits.{held_below, held-right, held-inside}
use Rattle.locate.proofs.place.held.Goals as goal

pub returns-then-outside : goal.returns-then-outside
returns-then-outside c =
    c.zeros.ensures ∙ sym (held_below _ _ _ _ (sym c.outside.ensures ∙ c.if-outside.true))

pub returns-then-outside-2 : goal.returns-then-outside-2
returns-then-outside-2 c =
    c.zeros-then-outside-2.ensures
    ∙ sym (held-right _ _ _ _ (sym c.outside.ensures ∙ c.if-outside.false)
    (sym c.outside-2.ensures ∙ c.if-outside-2.true))

pub returns-in-Ok : goal.returns-in-Ok
returns-in-Ok c =
    ap (λ (x : Result (OfCall Fp) Refusal). values_of (evaluated_outcome x)) (sym c.in-Ok.is)
    ∙ sym (held-inside _ _ _ _ (sym c.outside.ensures ∙ c.if-outside.false)
    (sym c.outside-2.ensures ∙ c.if-outside-2.false))

pub returns-in-Err : goal.returns-in-Err
returns-in-Err c =
    c.zeros-in-Err.ensures
    ∙ ap (λ (x : Result (OfCall Fp) Refusal). values_of (evaluated_outcome x)) (sym c.in-Err.is)
    ∙ sym (held-inside _ _ _ _ (sym c.outside.ensures ∙ c.if-outside.false)
    (sym c.outside-2.ensures ∙ c.if-outside-2.false))
