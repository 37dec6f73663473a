-- `weights::table::widen` meets its contract: the two parts of one weight a turn.
use Prim.Native.Nat.{◌+◌, ◌*◌, ◌<◌}
use mathlib.Core.Path.{ap}
use native.Mathlib.Omega.{arith}
use lib.ListN.{length}
use Rattle.std.proofs.lemmas.List.{get_or_read}
use Rattle.weights.proofs.OneBitMore.{widening-turn}
use Rattle.weights.proofs.table.widen.Goals as goal

pub loop-j-preserved : goal.loop-j-preserved
loop-j-preserved g c =
    let 𝓔 = g.S.Scalar.elements in
    let 𝓛 = g.S.Scalar.lawful in
    let l = c.loop-j-test.true in
    let room : c.args.base + 2 * c.loop-j.j + 1 < length c.loop-j.table =
    omega (arith, l, c.requires, c.loop-j.invariant.0.same_length) in
    let inside : c.args.base + c.loop-j.j < length c.loop-j.table = omega (arith, room) in (
      widening-turn 𝓔 𝓛 _ _ _ _ _ _ c.loop-j.j _ _ _ c.loop-j.invariant.1 l room (𝓛.valid c.args.odd) c.loop-j.invariant.0
          (ap 𝓔.element (get_or_read c.loop-j.table _ c.index-table-base.result inside c.index-table-base.is 𝓔.none))
          c.mul-part.ensures c.sub.ensures c.put_both.ensures,
      omega (arith, c.loop-j.invariant.1),
      omega (arith, l),
    )
