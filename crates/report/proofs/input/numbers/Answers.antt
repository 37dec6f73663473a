-- `report::input::numbers` meets its contract: one number a turn.
use native.Mathlib.Omega.{arith}
use Rattle.report.proofs.Coordinates.{filling-turn}
use Rattle.report.proofs.input.numbers.Goals as goal

pub loop-i-preserved : goal.loop-i-preserved
loop-i-preserved c = filling-turn _ _ _ _ _ _ _ (omega arith) c.four_bytes.ensures c.loop-i.invariant
