-- `key::run::arrays` meets its contract: the walk stands where `Here` says, behind each opening and its entries.
use mathlib.Core.Path.{refl, ◌∙◌}
use native.Mathlib.Omega.{arith}
use Rattle.rules.specs.Rules.{opening_rules}
use Rattle.rules.proofs.Verdicts.{told-kept, told-broken}
use Rattle.key.specs.Inner.{Here, Only}
use Rattle.key.specs.Reading.{is_end}
use Rattle.key.proofs.BehindRuns.{opening-passed, arrays-fewer}
use Rattle.key.proofs.WhereRunsStop.{NoneOpens, only-ends, other-kind, cut_off, opening-broken}
use Rattle.key.proofs.run.arrays.Goals as goal
use Rattle.key.proofs.run.arrays.Goals.{At-loop-at}

-- where none opens, the walk stands before what only an end could be
standing : (c : At-loop-at) →
    NoneOpens c.args.key.now c.loop-at.s c.loop-at.at →
    Here c.args.key.now c.loop-at.starts c.loop-at.s c.loop-at.at ×
    Only is_end c.args.key.now c.loop-at.starts c.loop-at.s c.loop-at.at
standing c none = (c.loop-at.invariant.1.1.0, only-ends c.args.key.now c.loop-at.s c.loop-at.at c.loop-at.starts c.loop-at.invariant.1.1.1 none)

pub loop-at-init : goal.loop-at-init
loop-at-init c = (refl, (refl, (c.requires.here_2, c.requires.only_2)))

pub overflow_add-at : goal.overflow_add-at
overflow_add-at c = omega (arith, c.loop-at.invariant.1.1.0.within)

pub returns-then-kind-ne1 : goal.returns-then-kind-ne1
returns-then-kind-ne1 c =
    let told = standing (goal.at.returns-then-kind-ne1 c).At-loop-at
    (other-kind c.args.key.now c.loop-at.s c.loop-at.at (λ e. c.if-kind-ne1.true (omega (arith, e)))
    (λ e. c.if-kind-ne1.true (omega (arith, e)))) in
    record { here = told.0; only = told.1 }

pub returns-then-is_err : goal.returns-then-is_err
returns-then-is_err c =
    let l = c.loop-at in
    let told = standing (goal.at.returns-then-is_err c).At-loop-at
    (opening-broken c.args.key.now l.s l.at c.shape-shape.result c.shape-shape.ensures
    (told-broken l.at (opening_rules l.s.first l.s.head l.s.arrays c.shape-shape.result) c.array_opening.result c.is_err.result
    c.array_opening.ensures c.is_err.ensures.value c.if-is_err.true)) in
    record { here = told.0; only = told.1 }

pub array-behind-requires : goal.array-behind-requires
array-behind-requires c =
    let l = c.loop-at in
    let shape = c.shape-shape.result in
    let kept = told-kept l.at (opening_rules l.s.first l.s.head l.s.arrays shape) c.array_opening.result
    c.is_err.result c.array_opening.ensures c.is_err.ensures.value c.if-is_err.false in record {
      key_len_bound = c.requires.key_len_bound;
      arrays_bound = arrays-fewer l.s.first l.s.head l.s.arrays shape kept;
      here_2 = opening-passed l.invariant.1.1.0 _ shape (omega (arith, c.if-kind-ne1.false)) (omega (arith, c.if-kind-ne1.false)) refl
          (omega (arith, l.invariant.0, c.loop-at-test.true)) c.shape-shape.ensures kept;
    }

pub loop-at-smaller : goal.loop-at-smaller
loop-at-smaller c =
    let e = c.array-behind.ensures in
    omega (arith, e.onward, e.here.within)

pub loop-at-preserved : goal.loop-at-preserved
loop-at-preserved c =
    let i = c.loop-at.invariant in
    let e = c.array-behind.ensures in
    (i.0, (c.starts-1.given ∙ i.1.0, (e.here, e.only)))

pub returns : goal.returns
returns c =
    let l = c.loop-at in
    let told = standing (goal.at.returns c).At-loop-at
    (cut_off c.args.key.now l.s l.at (omega (arith, c.loop-at-test.false, l.invariant.0))) in
    record { here = told.0; only = told.1 }
