-- `weights::table::pair_up` meets its contract: the two factors of one coordinate a turn.
use Prim.Native.Nat.{◌<◌}
use mathlib.Core.Path.{◌∙◌}
use native.Mathlib.Omega.{arith}
use lib.ListN.{length}
use Rattle.scalar.proofs.NumbersRead.{counted-is, readable}
use Rattle.weights.proofs.FactorsWritten.{pairing-turn}
use Rattle.weights.proofs.table.pair_up.Goals as goal

pub read-odd-requires : goal.read-odd-requires
read-odd-requires g c =
    readable g.S.Scalar.elements g.S.Scalar.lawful c.args.coordinates.now c.requires.coordinates_len_bound.1 c.loop-i.i
    (omega (
      arith,
      c.loop-i-test.true,
      counted-is g.S.Scalar.elements g.S.Scalar.lawful c.args.coordinates.now c.WIDTH.result
          (c.WIDTH.ensures ∙ g.met.S.Scalar.width),
    ))

pub loop-i-preserved : goal.loop-i-preserved
loop-i-preserved g c =
    let 𝓔 = g.S.Scalar.elements in
    let l : c.loop-i.i < length (𝓔.scalars.elements c.args.coordinates.now) =
    omega (
      arith,
      c.loop-i-test.true,
      counted-is 𝓔 g.S.Scalar.lawful c.args.coordinates.now c.WIDTH.result
          (c.WIDTH.ensures ∙ g.met.S.Scalar.width),
    ) in (
      pairing-turn 𝓔 g.S.Scalar.lawful _ _ _ _ c.loop-i.i _ _ _
          (omega (arith, l, c.requires.coordinates_len_bound.0, c.requires.ready.room, c.loop-i.invariant.0.same_length))
          c.loop-i.invariant.0 c.one.ensures c.read-odd.ensures c.sub.ensures c.put_both.ensures,
      omega (arith, l),
    )
