-- `weights::table::grow` meets its contract: one bit more a turn.
use Prim.Native.Nat.{◌+◌, ◌-◌, ◌*◌, ◌≤◌, ◌<◌}
use mathlib.Core.Path.{refl, ap}
use native.Mathlib.Omega.{arith}
use lib.ListN.{length}
use lib.Pow.{pow_mono}
use Rattle.std.proofs.lemmas.List.{get_or_read}
use Rattle.field.proofs.OneShifted.{one_shifted}
use Rattle.weights.proofs.OneLimbBlock.{growing-begun, growing-turn}
use Rattle.weights.proofs.table.grow.Goals as goal

pub loop-level-init : goal.loop-level-init
loop-level-init g c = (growing-begun g.S.Scalar.elements _ _ c.requires.block_value, omega arith)

pub widen-requires : goal.widen-requires
widen-requires g c =
    let level = c.loop-level.level in
    let l : level ≤ 4 = omega (arith, c.loop-level-test.true) in
    omega (
      arith,
      one_shifted 64 level (omega arith),
      pow_mono {i = level} {j = 4} l,
      c.requires.block_bound.0,
      c.requires.block_bound.1,
      c.loop-level.invariant.0.same_length,
    )

pub loop-level-preserved : goal.loop-level-preserved
loop-level-preserved g c =
    let 𝓔 = g.S.Scalar.elements in
    let l = c.loop-level-test.true in
    let inside : 2 * (5 * c.args.block + 4 - c.loop-level.level) + 1 < length c.loop-level.table =
    omega (arith, c.requires.block_bound.0, c.requires.block_bound.1, c.loop-level.invariant.0.same_length) in (
      growing-turn 𝓔 _ _ _ _ c.loop-level.level _ _ _ l refl (one_shifted 64 _ (omega arith)) c.requires.block_bound.2
          c.loop-level.invariant.0
          (ap 𝓔.element (get_or_read c.loop-level.table _ c.index-table-bit.result inside c.index-table-bit.is 𝓔.none))
          c.widen.ensures,
      omega (arith, l),
    )
