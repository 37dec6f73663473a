-- `key::run::call_kept` meets its contract: it reads the call and holds it to the rules.
use Rattle.std.specs.Prelude.{is_ok}
use mathlib.Core.Bool.{false}
use mathlib.Core.Path.{refl, ap, ◌∙◌}
use Rattle.records.specs.Kinds.{call_of}
use Rattle.records.specs.declared.Record.{Record}
use Rattle.rules.specs.Inner.{call_rules_in}
use Rattle.key.proofs.RecordTried.{fails-other, tried}
use Rattle.key.proofs.run.call_kept.Goals as goal

pub returns-then-key-at-ne5 : goal.returns-then-key-at-ne5
returns-then-key-at-ne5 c =
    let a = c.args in
    fails-other a.key.now Record.Call (call_rules_in a.key.now a.starts.now false a.array a.arrays) a.at 5 (λ x. refl)
    c.if-key-at-ne5.true

pub returns : goal.returns
returns c =
    let a = c.args in
    tried a.key.now Record.Call (call_rules_in a.key.now a.starts.now false a.array a.arrays) a.at 5 (λ x. refl) call_of
    (λ x. refl) c.call-c.result c.call-c.ensures c.if-key-at-ne5.false c.requires.at_in_bounds c.is_ok.result
    (c.is_ok.ensures.value ∙ ap is_ok c.call.ensures)
