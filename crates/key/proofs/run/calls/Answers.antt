-- `key::run::calls` meets its contract: each entry that it goes over passes, and none does where it stops.
use mathlib.Core.Bool.{false}
use mathlib.Core.Path.{refl}
use native.Mathlib.Omega.{arith}
use Rattle.records.specs.declared.Record.{Record}
use Rattle.rules.specs.Inner.{call_rules_in}
use Rattle.key.proofs.RunOneEntryMore.{gone-on, gone-up-to, gone-to-the-end}
use mathlib.Core.Bool.{not}
use mathlib.Core.Path.{ap}
use Rattle.key.proofs.run.calls.Goals as goal

pub loop-at-init : goal.loop-at-init
loop-at-init c = (refl, (c.requires.from_in_bounds, λ to run. run))

pub returns-then-not-kept : goal.returns-then-not-kept
returns-then-not-kept c =
    let i = c.loop-at in
    let a = c.args in
    let told = gone-up-to a.key.now Record.Call (call_rules_in a.key.now a.starts.now false a.array a.arrays) 11 (λ x. refl) a.from i.at i.invariant.1.1
    c.call_kept-kept.result (ap not c.if-not-kept.true) c.call_kept-kept.ensures in
    record { run = told.0; stops = told.1 }

pub loop-at-preserved : goal.loop-at-preserved
loop-at-preserved c =
    let i = c.loop-at in
    let a = c.args in (
      i.invariant.0,
      (
        omega arith,
        gone-on a.key.now Record.Call (call_rules_in a.key.now a.starts.now false a.array a.arrays) 11 (λ x. refl) a.from i.at i.invariant.1.1
            c.call_kept-kept.result (ap not c.if-not-kept.false) c.call_kept-kept.ensures,
      ),
    )

pub returns : goal.returns
returns c =
    let i = c.loop-at in
    let a = c.args in
    let told = gone-to-the-end a.key.now Record.Call (call_rules_in a.key.now a.starts.now false a.array a.arrays) 11 (λ x. refl) a.from i.at i.invariant.1.1
    (omega (arith, c.loop-at-test.false, i.invariant.0)) in
    record { run = told.0; stops = told.1 }
