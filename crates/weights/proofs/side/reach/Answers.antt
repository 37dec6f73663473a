-- `weights::side::reach` meets its contract: the bits themselves, or the end of the last limb.
use Prim.Native.Nat.{◌*◌, ◌/◌, ◌+◌}
use mathlib.Core.Path.{◌≡◌}
use native.Mathlib.Omega.{arith}
use Rattle.weights.specs.Side.{filled}
use Rattle.weights.proofs.Reach.{reaches_end}
use Rattle.weights.proofs.side.reach.Goals as goal

pub returns-then-bits-most-clause-reached : goal.returns-then-bits-most-clause-reached
returns-then-bits-most-clause-reached g c =
    let end : (c.args.bits + 4) / 5 * 5 ≡ filled c.args.bits = omega arith in
    rw end (reaches_end g.S.Scalar.elements g.S.Scalar.lawful c.args.most _ c.args.table.now c.if-bits-most.true
    c.if-table-le-PLACES.false c.requires.1)
