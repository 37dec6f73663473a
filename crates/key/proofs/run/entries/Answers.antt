-- `key::run::entries` meets its contract: what a run goes over, the walk would have gone over one by one.
use mathlib.Core.Path.{refl}
use native.Mathlib.Omega.{arith}
use Rattle.key.specs.Inner.{passed}
use Rattle.key.proofs.BehindRuns.{run_inside, cells-walked, calls-walked, scaled-calls-walked}
use Rattle.key.proofs.CheckSoFar.{counts-most, noted}
use Rattle.key.proofs.WhereRunsStop.{late-head, not-sparse, not-recursive, no_call, no-scaled-call, only-opens}
use Prim.Native.Nat.{◌+◌, ◌-◌, ◌/◌}
use Rattle.key.proofs.run.entries.Goals as goal

pub overflow_sub-behind : goal.overflow_sub-behind
overflow_sub-behind c =
    (run_inside c.cells-behind.ensures.run c.requires.here_2.within).0

pub entered-requires : goal.entered-requires
entered-requires c =
    let pre = c.requires in
    omega (arith, pre.key_len_bound, counts-most pre.here_2, run_inside c.cells-behind.ensures.run pre.here_2.within)

pub returns-then-array-eq2 : goal.returns-then-array-eq2
returns-then-array-eq2 c =
    let run = c.cells-behind in
    let H = c.requires.here_2 in
    let key = c.args.key.now in
    rw c.entered.ensures record {
      here = cells-walked H c.requires.first_value run.ensures.run;
      only = only-opens key c.args.starts.now (passed c.args.seen c.args.seen.scaled c.args.seen.head (c.args.seen.cells + (run.result - c.args.from) / 21) (c.args.seen.calls + 0)) run.result
          (late-head key run.result _ refl) run.ensures.stops
          (not-recursive key c.args.starts.now _ c.args.seen.array _ run.result (λ e. omega (arith, e, c.if-array-eq2.true)));
      onward = (run_inside run.ensures.run H.within).0;
    }

pub scaled_calls-behind-requires : goal.scaled_calls-behind-requires
scaled_calls-behind-requires c =
    let pre = c.requires in
    record { from_in_bounds = pre.here_2.within; key_len_bound = pre.key_len_bound; noted = noted pre.here_2; narrow = pre.here_2.narrow_array }

pub overflow_sub-behind-then-seen : goal.overflow_sub-behind-then-seen
overflow_sub-behind-then-seen c = (run_inside c.scaled_calls-behind.ensures.run c.requires.here_2.within).0

pub entered-requires-then-seen : goal.entered-requires-then-seen
entered-requires-then-seen c =
    let pre = c.requires in
    omega (arith, pre.key_len_bound, counts-most pre.here_2, run_inside c.scaled_calls-behind.ensures.run pre.here_2.within)

pub returns-then-seen : goal.returns-then-seen
returns-then-seen c =
    let run = c.scaled_calls-behind in
    let edition = c.if-seen.true in
    let H = c.requires.here_2 in
    let key = c.args.key.now in
    let starts = c.args.starts.now in
    let seen = c.args.seen in
    rw c.entered-then-seen.ensures record {
      here = scaled-calls-walked H c.requires.first_value edition run.ensures.run;
      only = only-opens key starts (passed seen seen.scaled seen.head (seen.cells + 0) (seen.calls + (run.result - c.args.from) / 15)) run.result (late-head key run.result _ refl)
          (not-sparse key _ run.result c.if-array-eq2.false)
          (no-scaled-call key starts seen.scaled seen.array seen.arrays run.result edition run.ensures.stops);
      onward = (run_inside run.ensures.run H.within).0;
    }

pub calls-behind-requires : goal.calls-behind-requires
calls-behind-requires c =
    let pre = c.requires in
    record { from_in_bounds = pre.here_2.within; key_len_bound = pre.key_len_bound; noted = noted pre.here_2; narrow = pre.here_2.narrow_array }

pub overflow_sub-behind-2 : goal.overflow_sub-behind-2
overflow_sub-behind-2 c = (run_inside c.calls-behind.ensures.run c.requires.here_2.within).0

pub entered-requires-2 : goal.entered-requires-2
entered-requires-2 c =
    let pre = c.requires in
    omega (arith, pre.key_len_bound, counts-most pre.here_2, run_inside c.calls-behind.ensures.run pre.here_2.within)

pub returns : goal.returns
returns c =
    let run = c.calls-behind in
    let edition = c.if-seen.false in
    let H = c.requires.here_2 in
    let key = c.args.key.now in
    let starts = c.args.starts.now in
    let seen = c.args.seen in
    rw c.entered-2.ensures record {
      here = calls-walked H c.requires.first_value edition run.ensures.run;
      only = only-opens key starts (passed seen seen.scaled seen.head (seen.cells + 0) (seen.calls + (run.result - c.args.from) / 11)) run.result (late-head key run.result _ refl)
          (not-sparse key _ run.result c.if-array-eq2.false)
          (no_call key starts seen.scaled seen.array seen.arrays run.result edition run.ensures.stops);
      onward = (run_inside run.ensures.run H.within).0;
    }
