-- `evaluate::point::bits` meets its contract: one bit a turn.
use Rattle.std.proofs.Common.{arith, refl, length}
use Rattle.evaluate.proofs.CoordinatesFromBits.{filling-begun, filling-turn, filling-done}
use Rattle.evaluate.proofs.point.bits.Goals as goal

pub loop-coordinate-init : goal.loop-coordinate-init
loop-coordinate-init c = filling-begun c.args.a (length c.args.coordinates.now) c.args.coordinates.now refl

pub loop-coordinate-preserved : goal.loop-coordinate-preserved
loop-coordinate-preserved c = filling-turn _ _ _ _ _ (omega arith) c.loop-coordinate.invariant

pub returns : goal.returns
returns c = filling-done _ _ _ _ _ (omega arith) c.loop-coordinate.invariant
