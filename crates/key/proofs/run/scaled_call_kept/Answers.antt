-- `key::run::scaled_call_kept` meets its contract: it reads the call and holds it to the rules.
use Rattle.std.specs.Prelude.{is_ok}
use mathlib.Core.Bool.{true}
use mathlib.Core.Path.{refl, ap, ◌∙◌}
use Rattle.records.specs.Kinds.{scaled_call_of}
use Rattle.records.specs.declared.Record.{Record}
use Rattle.rules.specs.Inner.{scaled_call_rules_in}
use Rattle.key.proofs.RecordTried.{fails-other, tried}
use Rattle.key.proofs.run.scaled_call_kept.Goals as goal

pub returns-then-key-at-ne8 : goal.returns-then-key-at-ne8
returns-then-key-at-ne8 c =
    let a = c.args in
    fails-other a.key.now Record.ScaledCall (scaled_call_rules_in a.key.now a.starts.now true a.array a.arrays) a.at 8 (λ x. refl)
    c.if-key-at-ne8.true

pub returns : goal.returns
returns c =
    let a = c.args in
    tried a.key.now Record.ScaledCall (scaled_call_rules_in a.key.now a.starts.now true a.array a.arrays) a.at 8 (λ x. refl) scaled_call_of
    (λ x. refl) c.scaled_call-c.result c.scaled_call-c.ensures c.if-key-at-ne8.false c.requires.at_in_bounds c.is_ok.result
    (c.is_ok.ensures.value ∙ ap is_ok c.scaled_call.ensures)
