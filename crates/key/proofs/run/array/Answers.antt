-- `key::run::array` meets its contract: the walk goes on behind the opening, whose offset is noted.
use mathlib.Core.Path.{ap}
use native.Mathlib.Omega.{arith}
use lib.ListN.{length-set}
use Rattle.key.specs.declared.seen.Seen.{Seen}
use Rattle.key.proofs.CheckSoFar.{noted}
use Rattle.key.proofs.run.array.Goals as goal

pub put-requires : goal.put-requires
put-requires c =
    omega (arith, (noted c.requires.here_2).room, length-set c.args.starts.now c.args.seen.arrays c.args.at)

pub entries-requires : goal.entries-requires
entries-requires c =
    let opens = c.opened-opened.ensures in
    let pre = c.requires in
    record { key_len_bound = pre.key_len_bound; first_value = ap (λ (s : Seen). s.first) opens; here_2 = rw (opens, c.put.ensures) pre.here_2 }

pub returns : goal.returns
returns c =
    let e = c.entries.ensures in
    record { here = e.here; only = e.only; onward = omega (arith, e.onward) }
